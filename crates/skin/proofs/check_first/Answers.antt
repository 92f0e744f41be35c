-- `check_first` meets its contract.
use Rattle.faults.proofs.Order.{first_at}
use Rattle.skin.proofs.check_first.Goals as goal

pub returns : goal.returns
returns c = first_at c.check_at.ensures
