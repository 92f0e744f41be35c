-- `leave_block` meets its contract.
use Rattle.ranks.proofs.Leaving.{less_can, less_more, block_lowered}
use lib.ListN.{length-set}
use Rattle.ranks.proofs.leave_block.Goals as goal

pub overflow_sub-less : goal.overflow_sub-less
overflow_sub-less c = less_can c.args.i c.requires.i_lt_most_rows c.args.stair.now c.args.sub.now c.requires.stair c.requires.can_lower c.loop-k.k c.loop-k-test.true

pub loop-k-preserved : goal.loop-k-preserved
loop-k-preserved c =
    let loop = c.loop-k in
    let size = loop.invariant.0 in
    (simp length-set size, less_more c.args.i c.requires.i_lt_most_rows c.args.stair.now c.args.sub.now c.requires.stair c.requires.can_lower loop.k c.loop-k-test.true loop.less size loop.invariant.1)

pub returns : goal.returns
returns c = block_lowered c.args.i c.args.sub.now c.loop-k.less _ c.loop-k.k c.loop-k-test.false c.loop-k.invariant.1 c.write_block.ensures
