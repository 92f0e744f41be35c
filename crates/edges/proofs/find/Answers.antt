-- `find` meets its contract.
use mathlib.Core.Path.{◌∙◌, ap}
use Prim.Native.Nat.{◌-◌}
use lib.ListN.{length}
use Rattle.slots.specs.Slot.{next_slot}
use Rattle.slots.proofs.Slots.{next_inside, third_inside}
use Rattle.edges.proofs.Sweep.{find_start, find_more, picked_found}
use native.Mathlib.Omega.{arith}
use Rattle.edges.proofs.find.Goals as goal

pub loop-x-init : goal.loop-x-init
loop-x-init c =
    let pre = c.requires in
    find_start c.args.t.now c.args.reverse.now c.args.u _ pre.whole.threes (pre.chained.heads.lasts c.args.u pre.u_in_bounds) pre.found_to

pub next-k-requires : goal.next-k-requires
next-k-requires c = omega (arith, c.next-j.ensures, next_inside (length c.args.t.now) (c.loop-x.x - 1) c.requires.whole.threes (omega (arith, c.loop-x.invariant.upto)))

pub offset_bounds-t-k : goal.offset_bounds-t-k
offset_bounds-t-k c = omega (arith, c.next-k.ensures ∙ ap next_slot c.next-j.ensures, third_inside (length c.args.t.now) (c.loop-x.x - 1) c.requires.whole.threes (omega (arith, c.loop-x.invariant.upto)))

pub bounds-t-k : goal.bounds-t-k
bounds-t-k c = omega (arith, c.next-k.ensures ∙ ap next_slot c.next-j.ensures, third_inside (length c.args.t.now) (c.loop-x.x - 1) c.requires.whole.threes (omega (arith, c.loop-x.invariant.upto)))

pub offset_bounds-reverse-k : goal.offset_bounds-reverse-k
offset_bounds-reverse-k c = omega (arith, c.next-k.ensures ∙ ap next_slot c.next-j.ensures, third_inside (length c.args.t.now) (c.loop-x.x - 1) c.requires.whole.threes (omega (arith, c.loop-x.invariant.upto)))

pub bounds-reverse-k : goal.bounds-reverse-k
bounds-reverse-k c = omega (arith, c.loop-x.invariant.back.room, c.next-k.ensures ∙ ap next_slot c.next-j.ensures, third_inside (length c.args.t.now) (c.loop-x.x - 1) c.requires.whole.threes (omega (arith, c.loop-x.invariant.upto)))

pub bounds-ends-q : goal.bounds-ends-q
bounds-ends-q c =
    let small = third_inside (length c.args.t.now) (c.loop-x.x - 1) c.requires.whole.threes (omega (arith, c.loop-x.invariant.upto)) in
    omega (arith, c.requires.under.under c.next-k.result (omega (arith, c.next-k.ensures ∙ ap next_slot c.next-j.ensures)))

pub loop-x-preserved : goal.loop-x-preserved
loop-x-preserved c =
    let loop = c.loop-x in
    let pre = c.requires in
    let t = c.args.t.now in
    let both = c.next-k.ensures ∙ ap next_slot c.next-j.ensures in
    let f = picked_found t c.args.ends.now c.args.u _ c.pick.result pre.entries pre.entered c.pick.ensures in
    let l = pre.chained.links (loop.x - 1) (omega (arith, loop.invariant.upto)) in
    rw both (find_more t c.args.ends.now loop.reverse c.args.u loop.x c.pick.result _ pre.whole.threes c.loop-x-test.true loop.invariant (rw both at f) l)
