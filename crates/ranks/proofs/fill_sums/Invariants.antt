use Prim.Native.Nat.{◌*◌}
use Rattle.ranks.specs.InnerRanks.{block}
use Rattle.ranks.proofs.Filling.{Filled}
use Rattle.ranks.proofs.fill_sums.Given as goal

abbrev pub invariant-loop-b : goal.invariant-loop-b
invariant-loop-b l = Filled (λ b. block * b) l.b l.sup
