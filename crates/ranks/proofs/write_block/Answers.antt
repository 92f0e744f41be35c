-- `write_block` meets its contract.
use Prim.Native.Nat.{◌*◌, ◌/◌}
use Rattle.ranks.specs.InnerRanks.{block}
use Rattle.ranks.proofs.Leaving.{write_none, write_more, write_end}
use native.Mathlib.Omega.{arith}
use Rattle.ranks.proofs.write_block.Goals as goal

pub loop-k-init : goal.loop-k-init
loop-k-init c = write_none (block * (c.args.i / block)) c.args.less.now c.args.sub.now

pub loop-k-preserved : goal.loop-k-preserved
loop-k-preserved c = write_more (block * (c.args.i / block)) c.loop-k.k c.args.less.now c.args.sub.now c.loop-k.sub (omega (arith, c.requires.i_lt_most_rows)) c.loop-k.invariant

pub returns : goal.returns
returns c = write_end c.args.i c.loop-k.k c.args.less.now c.args.sub.now c.loop-k.sub c.loop-k-test.false (omega arith) c.loop-k.invariant
