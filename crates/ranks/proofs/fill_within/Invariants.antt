use Prim.Native.Nat.{◌%◌}
use Rattle.ranks.specs.InnerRanks.{block}
use Rattle.ranks.proofs.Filling.{Filled}
use Rattle.ranks.proofs.fill_within.Given as goal

abbrev pub invariant-loop-i : goal.invariant-loop-i
invariant-loop-i l = Filled (λ i. i % block) l.i l.sub
