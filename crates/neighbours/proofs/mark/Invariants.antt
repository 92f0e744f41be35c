use Rattle.neighbours.proofs.Marking.{MarkedTo}
use Rattle.neighbours.proofs.mark.Given as goal

abbrev pub invariant-loop-w : goal.invariant-loop-w
invariant-loop-w l = MarkedTo l.ring l.w-index l.m
