-- `reach_next` meets its contract.
use Rattle.slots.specs.Slot.{next_slot}
use Rattle.slots.proofs.Slots.{next_inside}
use Rattle.reach.proofs.Growing.{grow_more}
use mathlib.Core.Path.{◌∙◌}
use Prim.Native.Nat.{◌-◌}
use lib.ListN.{length}
use native.Mathlib.Omega.{arith}
use Rattle.reach.proofs.reach_next.Goals as goal

pub offset_bounds-t-k : goal.offset_bounds-t-k
offset_bounds-t-k c = let i = c.loop-x.invariant.0 in omega (arith, c.next-k.ensures, next_inside (length c.args.t.now) (c.loop-x.x - 1) c.requires.whole.threes (omega arith))

pub bounds-t-k : goal.bounds-t-k
bounds-t-k c = let i = c.loop-x.invariant.0 in omega (arith, c.next-k.ensures, next_inside (length c.args.t.now) (c.loop-x.x - 1) c.requires.whole.threes (omega arith))

pub loop-x-preserved : goal.loop-x-preserved
loop-x-preserved c =
    let loop = c.loop-x in
    let pre = c.requires in
    let t = c.args.t.now in
    let i = loop.invariant.0 in
    let g = loop.invariant.2 in
    let s = g.same_m in
    let n = next_inside (length t) (loop.x - 1) pre.whole.threes (omega arith) in
    let la = pre.chained.links (loop.x - 1) (omega arith) in
    let up = la.upto in
    let xv = loop.invariant.1 (omega arith) in
    let u = pre.under.under (next_slot (loop.x - 1)) n in
    (omega arith, λ p. la.hit p ∙ xv, grow_more t pre.whole c.args.v c.args.m.now c.args.q.now c.args.l0 loop.m loop.q loop.l loop.x _ _ _ _ g pre.v_nonzero c.loop-x-test.true i xv (omega arith) (rw c.next-k.ensures at c.note-l.ensures) la)
