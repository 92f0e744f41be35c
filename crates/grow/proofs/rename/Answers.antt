-- `rename` meets its contract: the walk from y forward to x.
use mathlib.Core.Path.{◌∙◌, ap}
use lib.ListN.{length-set}
use Rattle.slots.specs.Slot.{next_slot}
use Rattle.slots.proofs.Staged.{table_whole}
use Rattle.grow.proofs.Walking.{walk_start, walk_more, walk_less, walk_end, noted, slot_inside, beside_inside, after_inside, after_there}
use native.Mathlib.Omega.{arith}
use Rattle.grow.proofs.rename.Goals as goal

pub loop-p-init : goal.loop-p-init
loop-p-init c =
    let args = c.args in
    let pre = c.requires in
    walk_start args.t.now args.at.now args.r.kept.0 args.r.removed.0 args.x.0 args.y.0 (pre)

pub overflow_cast-e : goal.overflow_cast-e
overflow_cast-e c =
    let args = c.args in
    let pre = c.requires in
    let loop = c.loop-p in
    omega (arith, (noted args.t.now args.at.now args.r.kept.0 args.r.removed.0 args.x.0 args.y.0 (pre) loop.t loop.p loop.invariant).inside)

pub offset_bounds-at-p : goal.offset_bounds-at-p
offset_bounds-at-p c =
    let args = c.args in
    let pre = c.requires in
    let loop = c.loop-p in
    omega (arith, (noted args.t.now args.at.now args.r.kept.0 args.r.removed.0 args.x.0 args.y.0 (pre) loop.t loop.p loop.invariant).inside)

pub bounds-at-p : goal.bounds-at-p
bounds-at-p c =
    let args = c.args in
    let pre = c.requires in
    let loop = c.loop-p in
    omega (arith, (noted args.t.now args.at.now args.r.kept.0 args.r.removed.0 args.x.0 args.y.0 (pre) loop.t loop.p loop.invariant).inside)

pub overflow_sub-e : goal.overflow_sub-e
overflow_sub-e c =
    let args = c.args in
    let pre = c.requires in
    let loop = c.loop-p in
    omega (arith, (noted args.t.now args.at.now args.r.kept.0 args.r.removed.0 args.x.0 args.y.0 (pre) loop.t loop.p loop.invariant).noted)

pub offset_bounds-t-e : goal.offset_bounds-t-e
offset_bounds-t-e c =
    let args = c.args in
    let pre = c.requires in
    let loop = c.loop-p in
    omega (arith, slot_inside args.t.now args.at.now args.r.kept.0 args.r.removed.0 args.x.0 args.y.0 (pre) loop.t loop.p loop.invariant, (table_whole pre.table).most)

pub bounds-t-e : goal.bounds-t-e
bounds-t-e c =
    let args = c.args in
    let pre = c.requires in
    let loop = c.loop-p in
    omega (arith, slot_inside args.t.now args.at.now args.r.kept.0 args.r.removed.0 args.x.0 args.y.0 (pre) loop.t loop.p loop.invariant, loop.invariant.same)

pub next-requires : goal.next-requires
next-requires c =
    let args = c.args in
    let pre = c.requires in
    let loop = c.loop-p in
    omega (arith, slot_inside args.t.now args.at.now args.r.kept.0 args.r.removed.0 args.x.0 args.y.0 (pre) loop.t loop.p loop.invariant, (table_whole pre.table).most)

pub next-requires-in-loop-p : goal.next-requires-in-loop-p
next-requires-in-loop-p c =
    let next = c.next in
    let args = c.args in
    let pre = c.requires in
    let loop = c.loop-p in
    rw next.ensures (omega (arith, beside_inside args.t.now args.at.now args.r.kept.0 args.r.removed.0 args.x.0 args.y.0 (pre) loop.t loop.p loop.invariant, (table_whole pre.table).most))

pub offset_bounds-t-next : goal.offset_bounds-t-next
offset_bounds-t-next c =
    let next2 = c.next-in-loop-p in
    let next = c.next in
    let args = c.args in
    let pre = c.requires in
    let loop = c.loop-p in
    omega (arith, next2.ensures ∙ ap next_slot next.ensures, after_inside args.t.now args.at.now args.r.kept.0 args.r.removed.0 args.x.0 args.y.0 (pre) loop.t loop.p loop.invariant, (table_whole pre.table).most)

pub bounds-t-next : goal.bounds-t-next
bounds-t-next c =
    let next2 = c.next-in-loop-p in
    let next = c.next in
    let args = c.args in
    let pre = c.requires in
    let loop = c.loop-p in
    simp length-set (omega (arith, next2.ensures ∙ ap next_slot next.ensures, after_inside args.t.now args.at.now args.r.kept.0 args.r.removed.0 args.x.0 args.y.0 (pre) loop.t loop.p loop.invariant, loop.invariant.same))

pub loop-p-smaller : goal.loop-p-smaller
loop-p-smaller c =
    let next2 = c.next-in-loop-p in
    let next = c.next in
    let args = c.args in
    let pre = c.requires in
    let loop = c.loop-p in
    let if1 = c.loop-p-test in
    rw (next2.ensures ∙ ap next_slot next.ensures, after_there args.t.now args.at.now args.r.kept.0 args.r.removed.0 args.x.0 args.y.0 (pre) loop.t loop.p loop.invariant) (walk_less args.t.now args.at.now args.r.kept.0 args.r.removed.0 args.x.0 args.y.0 (pre) loop.t loop.p loop.invariant if1.true)

pub loop-p-preserved : goal.loop-p-preserved
loop-p-preserved c =
    let next2 = c.next-in-loop-p in
    let next = c.next in
    let args = c.args in
    let pre = c.requires in
    let loop = c.loop-p in
    let if1 = c.loop-p-test in
    rw (next2.ensures ∙ ap next_slot next.ensures, after_there args.t.now args.at.now args.r.kept.0 args.r.removed.0 args.x.0 args.y.0 (pre) loop.t loop.p loop.invariant) (walk_more args.t.now args.at.now args.r.kept.0 args.r.removed.0 args.x.0 args.y.0 (pre) loop.t loop.p loop.invariant if1.true)

pub returns : goal.returns
returns c =
    let args = c.args in
    let pre = c.requires in
    let loop = c.loop-p in
    let if1 = c.loop-p-test in
    walk_end args.t.now args.at.now args.r.kept.0 args.r.removed.0 args.x.0 args.y.0 (pre) loop.t loop.p loop.invariant if1.false
