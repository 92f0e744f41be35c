-- `before` meets its contract.
use Rattle.ranks.proofs.Sums.{before_is}
use Rattle.ranks.proofs.before.Goals as goal

pub returns : goal.returns
returns c = let args = c.args in before_is args.sub.now args.sup.now args.i c.requires.i_lt_most_rows
