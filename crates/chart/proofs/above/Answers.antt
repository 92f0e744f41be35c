-- `above` meets its contract.
use Prim.Native.Nat.{◌-◌}
use Rattle.chart.proofs.Looking.{walk_none, walk_more}
use native.Mathlib.Omega.{arith}
use Rattle.chart.proofs.above.Goals as goal

pub loop-y-init : goal.loop-y-init
loop-y-init c =
    let args = c.args in
    let pre = c.requires in
    walk_none args.t.now args.u args.e _ pre.e_in_bounds (pre.in_chains.chained.heads.lasts args.u pre.u_in_bounds)

pub loop-y-preserved : goal.loop-y-preserved
loop-y-preserved c =
    let args = c.args in
    let pre = c.requires in
    let loop = c.loop-y in
    let loop-test = c.loop-y-test in
    let up = loop.invariant.upto in
    walk_more args.t.now args.u args.e loop.x loop.y _ loop.invariant loop-test.true (rw (loop.invariant.hangs.hit (omega arith)) at (pre.in_chains.chained.links (loop.y - 1) (omega arith)))
