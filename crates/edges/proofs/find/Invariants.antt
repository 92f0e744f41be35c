use Rattle.edges.proofs.Sweep.{Finding}
use Rattle.edges.proofs.find.Given as goal

abbrev pub invariant-loop-x : goal.invariant-loop-x
invariant-loop-x l = Finding l.t l.reverse l.u l.x

abbrev pub decreases-loop-x : goal.decreases-loop-x
decreases-loop-x l = l.x
