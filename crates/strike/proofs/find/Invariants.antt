use mathlib.Core.Path.{◌≡◌}
use Prim.Native.Nat.{ℕ}
use lib.ListN.{get_or}
use Rattle.spots.specs.InnerHeld.{after_place}
use Rattle.strike.proofs.Loops.{Sought}
use Rattle.strike.proofs.find.Given as goal

abbrev pub invariant-loop-place : goal.invariant-loop-place
invariant-loop-place l = Sought (λ (x : ℕ). get_or l.held x 0 ≡ l.u) l.ring l.place-index l.one × Sought (λ (x : ℕ). get_or l.held (after_place x) 0 ≡ l.u) l.ring l.place-index l.two
