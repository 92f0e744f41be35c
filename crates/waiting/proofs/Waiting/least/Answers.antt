-- `least` meets its contract.
use Rattle.waiting.proofs.Members.{none_waits, word_inside, least_waits}
use Rattle.waiting.proofs.Waiting.least.Goals as goal

pub returns-then-self-eq0 : goal.returns-then-self-eq0
returns-then-self-eq0 c = rw (← c.self.view_is) (none_waits c.self.invariant c.if-self-eq0.true)

pub bounds-self-inside-b : goal.bounds-self-inside-b
bounds-self-inside-b c = word_inside c.self.invariant c.if-self-eq0.false

pub returns : goal.returns
returns c = rw (← c.self.view_is) (least_waits c.self.invariant c.if-self-eq0.false)
