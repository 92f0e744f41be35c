-- `slot_of` meets its contract.
use Prim.Native.Nat.{◌-◌, ◌<◌}
use lib.ListN.{length}
use Rattle.slots.proofs.Slots.{next_inside}
use Rattle.chart.proofs.Looking.{look_more}
use native.Mathlib.Omega.{arith}
use Rattle.chart.proofs.slot_of.Goals as goal

pub offset_bounds-t-next : goal.offset_bounds-t-next
offset_bounds-t-next c =
    let up = c.loop-x.invariant.upto in
    omega (arith, c.next.ensures, c.requires.whole.most, next_inside (length c.args.t.now) (c.loop-x.x - 1) c.requires.whole.threes (omega arith))

pub bounds-t-next : goal.bounds-t-next
bounds-t-next c =
    let up = c.loop-x.invariant.upto in
    omega (arith, c.next.ensures, next_inside (length c.args.t.now) (c.loop-x.x - 1) c.requires.whole.threes (omega arith))

pub loop-x-preserved : goal.loop-x-preserved
loop-x-preserved c =
    let k = c.loop-x in
    let up = k.invariant.upto in
    let p : 0 < k.x = omega (arith, c.loop-x-test.true) in
    look_more c.args.t.now c.args.a.0 c.args.b.0 k.x _ p k.invariant (rw (k.invariant.hit p) at (c.requires.chained.links (k.x - 1) (omega arith))) (rw c.next.ensures at c.if-t-next.false)
