-- `leave_sums` meets its contract.
use Rattle.ranks.proofs.Leaving.{drop_can, drop_more}
use native.Mathlib.Omega.{arith}
use lib.ListN.{length-set}
use Rattle.ranks.proofs.leave_sums.Goals as goal

pub overflow_sub-less : goal.overflow_sub-less
overflow_sub-less c =
    let pre = c.requires in
    let can = drop_can c.args.i c.args.j pre.i_lt_most_rows pre.j_lt_most_rows c.args.flight.now c.args.sup.now pre.stair pre.can_drop c.loop-k.k c.loop-k-test.true in
    omega arith

pub overflow_sub-less-in-loop-k : goal.overflow_sub-less-in-loop-k
overflow_sub-less-in-loop-k c =
    let pre = c.requires in
    let can = drop_can c.args.i c.args.j pre.i_lt_most_rows pre.j_lt_most_rows c.args.flight.now c.args.sup.now pre.stair pre.can_drop c.loop-k.k c.loop-k-test.true in
    omega arith

pub loop-k-preserved : goal.loop-k-preserved
loop-k-preserved c =
    let loop = c.loop-k in
    let pre = c.requires in
    let size = loop.invariant.0 in
    (simp length-set size, drop_more c.args.i c.args.j pre.i_lt_most_rows pre.j_lt_most_rows c.args.flight.now c.args.sup.now pre.stair pre.can_drop loop.k c.loop-k-test.true loop.less size loop.invariant.1)
