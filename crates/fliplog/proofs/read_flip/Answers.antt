-- `read_flip` meets its contract.
use Rattle.fliplog.proofs.Logging.{flip_there}
use Rattle.fliplog.proofs.read_flip.Goals as goal

pub returns : goal.returns
returns c =
    let args = c.args in
    flip_there args.log.now args.i c.read_row-first.result c.read_row-second.result c.read_row-first.ensures c.read_row-second.ensures
