-- `fill` meets its contract.
use Rattle.ranks.proofs.Filling.{fill_counts}
use Rattle.ranks.proofs.fill.Goals as goal

pub returns : goal.returns
returns c = fill_counts _ _ c.fill_within.ensures c.fill_sums.ensures
