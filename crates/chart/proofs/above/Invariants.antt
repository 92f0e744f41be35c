use Rattle.chart.proofs.Looking.{Walked}
use Rattle.chart.proofs.above.Given as goal

abbrev pub invariant-loop-y : goal.invariant-loop-y
invariant-loop-y l = Walked l.t l.u l.e l.x l.y

abbrev pub decreases-loop-y : goal.decreases-loop-y
decreases-loop-y l = l.y
