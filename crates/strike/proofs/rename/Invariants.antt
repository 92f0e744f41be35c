use Rattle.strike.proofs.Loops.{Renaming}
use Rattle.strike.proofs.rename.Given as goal

abbrev pub invariant-loop-x : goal.invariant-loop-x
invariant-loop-x l = Renaming l.initial.held l.ring l.u l.x-index l.held
