use Prim.Native.Nat.{ℕ, ◌-◌, ◌≤◌, ◌<◌}
use lib.ListN.{length}
use Rattle.surface.specs.Contract.{Stays}
use Rattle.leaving.specs.Leaving.{SomeLeaves, row_at}
use Rattle.leaving.proofs.next_leaving.Given as goal

abbrev pub invariant-loop-p : goal.invariant-loop-p
invariant-loop-p l = (l.initial.p ≤ l.p) × SomeLeaves l.a l.b l.t l.p × ((q : ℕ) → l.initial.p ≤ q → q < l.p → Stays l.a l.b (row_at l.t q))

abbrev pub decreases-loop-p : goal.decreases-loop-p
decreases-loop-p l = length l.t - l.p
