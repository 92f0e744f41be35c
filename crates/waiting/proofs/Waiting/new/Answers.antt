-- `new` meets its contract.
use Rattle.waiting.proofs.Members.{none_new, waiting_new}
use Rattle.waiting.proofs.Waiting.new.Goals as goal

pub returns : goal.returns
returns c = none_new

pub invariant_of-result : goal.invariant_of-result
invariant_of-result c = waiting_new
