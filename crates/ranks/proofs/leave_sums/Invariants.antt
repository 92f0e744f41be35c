use mathlib.Core.Path.{◌≡◌}
use lib.ListN.{length}
use Rattle.ranks.specs.InnerRanks.{blocks}
use Rattle.ranks.proofs.Filling.{Filled}
use Rattle.ranks.proofs.Leaving.{sum_left}
use Rattle.ranks.proofs.leave_sums.Given as goal

abbrev pub invariant-loop-k : goal.invariant-loop-k
invariant-loop-k l = (length l.less ≡ blocks) × Filled (sum_left l.i l.j l.sup) l.k l.less
