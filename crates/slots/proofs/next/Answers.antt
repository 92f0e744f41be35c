-- `next` meets its contract.
use mathlib.Core.Path.{sym}
use Rattle.slots.proofs.Slots.{next_back, next_on}
use Rattle.slots.proofs.next.Goals as goal

pub returns-then-e-eq2 : goal.returns-then-e-eq2
returns-then-e-eq2 c = sym (next_back c.args.e c.if-e-eq2.true)

pub returns-else-e-eq2 : goal.returns-else-e-eq2
returns-else-e-eq2 c = sym (next_on c.args.e c.if-e-eq2.false)
