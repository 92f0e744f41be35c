use Rattle.chart.proofs.Looking.{Looked}
use Rattle.chart.proofs.slot_of.Given as goal

abbrev pub invariant-loop-x : goal.invariant-loop-x
invariant-loop-x l = Looked l.t l.fn.a.0 l.b.0 l.x

abbrev pub decreases-loop-x : goal.decreases-loop-x
decreases-loop-x l = l.x
