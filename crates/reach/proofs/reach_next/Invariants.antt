use Rattle.reach.specs.Reaching.{Grew}
use mathlib.Core.Path.{◌≡◌}
use Prim.Native.Nat.{◌-◌, ◌≤◌, ◌<◌}
use lib.ListN.{length, get_or}
use Rattle.reach.proofs.reach_next.Given as goal

abbrev pub invariant-loop-x : goal.invariant-loop-x
invariant-loop-x l = (l.x ≤ length l.t) × (0 < l.x → get_or l.t (l.x - 1) 0 ≡ l.v) × Grew l.t l.v l.initial.m l.initial.q l.l0 l.m l.q l.l l.x

abbrev pub decreases-loop-x : goal.decreases-loop-x
decreases-loop-x l = l.x
