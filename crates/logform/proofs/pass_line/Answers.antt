-- `pass_line` meets its contract.
use Rattle.logform.proofs.Passing.{passed_over}
use Rattle.logform.proofs.pass_line.Goals as goal

pub returns : goal.returns
returns c = passed_over c.args.s.now c.args.from.at _ _ _ c.read_line.ensures
