use Rattle.nest.specs.Inner.{asks}
use Rattle.nest.proofs.Asking.{FirstAnswer}
use Rattle.nest.proofs.every.Given as goal

abbrev pub invariant-loop-i : goal.invariant-loop-i
invariant-loop-i l = FirstAnswer (asks l.q) l.entries l.i
