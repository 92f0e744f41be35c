-- `ends_of` meets its contract.
use Rattle.growth.specs.Grow.{in_order}
use Rattle.ends.specs.Rows.{PairIs, EndsAre}
use Rattle.ends.proofs.Pairs.{other_way}
use Rattle.ends.proofs.ends_of.Goals as goal

pub returns-in-Some : goal.returns-in-Some
unfolding PairIs EndsAre
returns-in-Some c = rw c.in-Some.is (in_order c.in-Some.ensures.0 c.in-Some.ensures.1)

pub returns-in-None : goal.returns-in-None
unfolding PairIs
returns-in-None c = other_way c.pair_of.result c.in-None.ensures c.pair_of.ensures
