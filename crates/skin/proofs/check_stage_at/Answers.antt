-- `check_stage_at` meets its contract.
use Rattle.faults.proofs.Order.{stage_at}
use Rattle.skin.proofs.check_stage_at.Goals as goal

pub returns : goal.returns
returns c = stage_at c.check_at.ensures
