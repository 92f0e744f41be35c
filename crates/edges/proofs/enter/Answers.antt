-- `enter` meets its contract.
use Prim.Native.Nat.{◌-◌}
use Rattle.refusal.proofs.Tells.{tells_true}
use Rattle.edges.proofs.Sweep.{enter_twice, enter_more}
use lib.ListN.{length}
use Rattle.slots.specs.Slot.{next_slot}
use Rattle.slots.proofs.Slots.{next_inside}
use native.Mathlib.Omega.{arith}
use Rattle.edges.proofs.enter.Goals as goal

pub returns-then-y-ne0 : goal.returns-then-y-ne0
returns-then-y-ne0 c =
    tells_true (enter_twice c.args.t.now c.requires.whole c.loop-x.ends c.args.u c.loop-x.x c.pick-y.result c.loop-x-test.true c.loop-x.invariant (rw c.next-k.ensures at c.pick-y.ensures) c.if-y-ne0.true)

pub loop-x-preserved : goal.loop-x-preserved
loop-x-preserved c =
    let loop = c.loop-x in
    let pre = c.requires in
    let i = next_inside (length c.args.t.now) (loop.x - 1) pre.whole.threes (omega (arith, loop.invariant.upto)) in
    let u = pre.under.under (next_slot (loop.x - 1)) i in
    let l = pre.chained.links (loop.x - 1) (omega (arith, loop.invariant.upto)) in
    let p = rw c.next-k.ensures at c.pick-y.ensures in
    rw c.next-k.ensures (enter_more c.args.t.now pre.whole loop.ends c.args.u loop.x c.pick-y.result _ c.loop-x-test.true (omega arith) loop.invariant p c.if-y-ne0.false l)
