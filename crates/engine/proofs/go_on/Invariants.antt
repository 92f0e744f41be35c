use Rattle.least.specs.Limited.{Allowed}
use Rattle.engine.proofs.Going.{Going}
use Rattle.engine.proofs.go_on.Given as goal

abbrev pub invariant-loop-kept : goal.invariant-loop-kept
invariant-loop-kept l = Going (Allowed l.bound l.xs) l.n l.initial.table l.rows l.initial.log l.done l.table l.log l.r l.k

abbrev pub decreases-loop-kept : goal.decreases-loop-kept
decreases-loop-kept l = l.r
