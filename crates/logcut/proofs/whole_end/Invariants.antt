use Rattle.logcut.specs.Inner.{NoneAfter}
use Rattle.logcut.proofs.whole_end.Given as goal

abbrev pub invariant-loop-i : goal.invariant-loop-i
invariant-loop-i l = NoneAfter l.bytes l.i
