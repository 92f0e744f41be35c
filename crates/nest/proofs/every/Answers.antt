-- `every` meets its contract.
use Rattle.refusal.proofs.Tells.{tells_true, tells_false}
use Rattle.nest.specs.Inner.{asks}
use Rattle.nest.proofs.Asking.{one_fails, all_answer}
use Rattle.nest.proofs.every.Goals as goal

pub returns-then-not-answers : goal.returns-then-not-answers
returns-then-not-answers c = tells_false (one_fails (asks c.args.q) c.loop-i-test.true _ c.if-not-answers.true c.answers.ensures)

pub returns : goal.returns
returns c = tells_true (all_answer (asks c.args.q) c.loop-i.invariant c.loop-i-test.false)
