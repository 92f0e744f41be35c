use Prim.Native.Nat.{◌-◌, ◌≤◌}
use Rattle.insert.proofs.Moving.{MovedTo}
use Rattle.insert.proofs.move_on.Given as goal

abbrev pub invariant-loop-k : goal.invariant-loop-k
invariant-loop-k l = (l.i ≤ l.k) × MovedTo l.j l.initial.room l.k l.room

abbrev pub decreases-loop-k : goal.decreases-loop-k
decreases-loop-k l = l.k - l.i
