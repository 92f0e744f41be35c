use Rattle.text.proofs.Words.{Compared}
use Rattle.text.proofs.expect.Given as goal

abbrev pub invariant-loop-b : goal.invariant-loop-b
invariant-loop-b l = Compared l.w l.s l.fn.from.at l.at l.b-index
