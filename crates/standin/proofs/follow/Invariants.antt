use Rattle.standin.proofs.Following.{Following}
use Rattle.standin.proofs.follow.Given as goal

abbrev pub invariant-loop-j : goal.invariant-loop-j
invariant-loop-j l = Following l.log l.corner l.at l.moved l.j
