-- `walk` meets its contract.
use mathlib.Core.Path.{refl}
use lib.ListN.{length}
use Rattle.slots.proofs.Slots.{third_inside}
use Rattle.slots.proofs.Marks.{zeros_set}
use Rattle.rings.proofs.Walking.{walk_start, walk_more}
use native.Mathlib.Omega.{arith}
use Rattle.rings.proofs.walk.Goals as goal

pub loop-m-init : goal.loop-m-init
loop-m-init c =
    let pre = c.requires in
    walk_start c.args.t.now c.args.last.now c.args.reverse.now pre.can_walk c.args.m.now c.args.v _ pre.v_in_bounds refl c.if-x-eq0.false pre.sound pre.handed_on

pub onward-e-requires-clause-e_in_bounds : goal.onward-e-requires-clause-e_in_bounds
onward-e-requires-clause-e_in_bounds c =
    let w = c.requires.can_walk in
    omega (arith, w.back.room, third_inside (length c.args.t.now) c.loop-m.e w.whole.threes c.loop-m.invariant.inside)

pub loop-m-smaller : goal.loop-m-smaller
loop-m-smaller c =
    let i = c.loop-m.invariant.inside in
    let b = c.loop-m.invariant.marks.room in
    omega (arith, zeros_set c.loop-m.m c.loop-m.e (omega arith) c.loop-m-test.true)

pub loop-m-preserved : goal.loop-m-preserved
loop-m-preserved c = rw c.onward-e.ensures (walk_more c.args.t.now c.args.last.now c.args.reverse.now c.requires.can_walk c.args.m.now c.loop-m.m c.args.v c.loop-m.e c.loop-m.invariant)
