-- `place_after` meets its contract.
use Rattle.logreader.proofs.place_after.Goals as goal

pub returns-in-Found : goal.returns-in-Found
returns-in-Found c = rw c.in-Found.is
