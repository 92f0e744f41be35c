use Rattle.surface.specs.Rows.{rows}
use Rattle.neighbours.specs.Around.{Unmarked}
use Rattle.least.specs.Limited.{Allowed}
use Rattle.least.proofs.Corners.{NoneBelow}
use Rattle.least.proofs.least_edge.Given as goal

abbrev pub invariant-loop-a : goal.invariant-loop-a
invariant-loop-a l = (Unmarked l.near × Unmarked l.far) × NoneBelow (Allowed l.bound l.xs) (rows l.t) l.a
