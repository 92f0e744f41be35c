-- `next_above` meets its contract.
use Rattle.rising.proofs.Rising.{least_above_lem}
use Rattle.rising.proofs.next_above.Goals as goal

pub returns-in-None : goal.returns-in-None
returns-in-None c = rw c.least_above.ensures (least_above_lem c.args.past c.args.ring.now)
