-- `take` meets its contract.
use Rattle.waiting.proofs.Members.{take_fits, tops_fit, releases}
use Rattle.waiting.proofs.Waiting.take.Goals as goal

pub overflow_sub-rest : goal.overflow_sub-rest
overflow_sub-rest c = take_fits c.self.invariant (rw (← c.self.view_is) at c.requires)

pub overflow_sub-self : goal.overflow_sub-self
overflow_sub-self c = tops_fit c.self.invariant (rw (← c.self.view_is) at c.requires) c.from.ensures

pub invariant_of-self : goal.invariant_of-self
invariant_of-self c = (releases c.self.invariant (rw (← c.self.view_is) at c.requires) c.from.ensures).1

pub returns : goal.returns
returns c = rw (← c.self.view_is) (releases c.self.invariant (rw (← c.self.view_is) at c.requires) c.from.ensures).0
