use Rattle.edges.proofs.Sweep.{Entering}
use Rattle.edges.proofs.enter.Given as goal

abbrev pub invariant-loop-x : goal.invariant-loop-x
invariant-loop-x l = Entering l.t l.ends l.u l.x

abbrev pub decreases-loop-x : goal.decreases-loop-x
decreases-loop-x l = l.x
