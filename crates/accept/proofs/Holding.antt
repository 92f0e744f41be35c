-- A corner that is used: a slot holds it.
use mathlib.Core.Path.{◌≡◌}
use mathlib.Core.Logic.{◌≢◌}
use mathlib.Core.List.{List}
use Prim.Native.Nat.{ℕ, ◌<◌}
use lib.ListN.{length, get_or}
use Rattle.surface.specs.Rows.{rows}
use Rattle.surface.specs.Table.{Used}
use Rattle.slots.specs.Slot.{Whole}
use Rattle.slots.proofs.Slots.{follows_at, at_used}

module _ (t : List ℕ) (w : Whole t) (v : ℕ) where
  pub held_used : (e : ℕ) → e < length t → get_or t e 0 ≡ v → Used (rows t) v
  held_used e h q = rw q at (at_used t w.threes e h)

  pub not_held : ((e : ℕ) → e < length t → get_or t e 0 ≢ v) → ¬ Used (rows t) v
  not_held h u = let a = follows_at t w.threes u.1.1 in h a.e a.inside a.is_v
