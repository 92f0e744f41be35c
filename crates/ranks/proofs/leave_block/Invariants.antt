use mathlib.Core.Path.{◌≡◌}
use lib.ListN.{length}
use Rattle.ranks.specs.InnerRanks.{block}
use Rattle.ranks.proofs.Filling.{Filled}
use Rattle.ranks.proofs.Leaving.{number_left}
use Rattle.ranks.proofs.leave_block.Given as goal

abbrev pub invariant-loop-k : goal.invariant-loop-k
invariant-loop-k l = (length l.less ≡ block) × Filled (number_left l.i l.sub) l.k l.less
