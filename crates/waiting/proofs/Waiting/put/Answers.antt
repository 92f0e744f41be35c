-- `put` meets its contract.
use Rattle.waiting.proofs.Members.{joins}
use Rattle.waiting.proofs.Waiting.put.Goals as goal

pub invariant_of-self : goal.invariant_of-self
invariant_of-self c = (joins c.self.invariant c.args.w c.requires c.args.on c.from-x.ensures).1

pub returns : goal.returns
returns c = rw (← c.self.view_is) (joins c.self.invariant c.args.w c.requires c.args.on c.from-x.ensures).0
