use Prim.Native.Nat.{◌*◌, ◌/◌}
use Rattle.ranks.specs.InnerRanks.{block}
use Rattle.ranks.proofs.Leaving.{Writing}
use Rattle.ranks.proofs.write_block.Given as goal

abbrev pub invariant-loop-k : goal.invariant-loop-k
invariant-loop-k l = Writing (block * (l.i / block)) l.k l.less l.initial.sub l.sub
