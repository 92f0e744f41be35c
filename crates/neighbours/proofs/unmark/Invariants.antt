use Rattle.neighbours.proofs.Marking.{MarkedFrom}
use Rattle.neighbours.proofs.unmark.Given as goal

abbrev pub invariant-loop-w : goal.invariant-loop-w
invariant-loop-w l = MarkedFrom l.ring l.w-index l.m
