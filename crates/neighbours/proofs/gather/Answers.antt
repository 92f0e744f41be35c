-- `gather` meets its contract.
use mathlib.Core.Path.{refl, ◌∙◌}
use Prim.Native.Nat.{◌-◌, ◌<◌}
use lib.ListN.{length, get_or, length-set}
use Rattle.slots.specs.Slot.{next_slot}
use Rattle.slots.proofs.Slots.{next_inside}
use Rattle.neighbours.proofs.Gathering.{whole, list_none, list_end, ring_room, ring_more}
use native.Mathlib.Omega.{arith}
use Rattle.neighbours.proofs.gather.Goals as goal

pub loop-x-init : goal.loop-x-init
loop-x-init c =
    let args = c.args in
    let pre = c.requires in
    (refl, omega arith, list_none args.t.now args.v.0 _ (pre.charted.chained.heads.lasts args.v.0 pre.v_in_bounds))

pub offset_bounds-t-next : goal.offset_bounds-t-next
offset_bounds-t-next c =
    let loop = c.loop-x in
    let args = c.args in
    let pre = c.requires in
    let up = loop.invariant.2.upto in
    omega (arith, c.next.ensures, next_inside (length args.t.now) (loop.x - 1) (whole args.t.now pre.charted.table) (omega arith))

pub bounds-t-next : goal.bounds-t-next
bounds-t-next c =
    let loop = c.loop-x in
    let args = c.args in
    let pre = c.requires in
    let up = loop.invariant.2.upto in
    omega (arith, c.next.ensures, next_inside (length args.t.now) (loop.x - 1) (whole args.t.now pre.charted.table) (omega arith))

pub bounds-ring-k : goal.bounds-ring-k
bounds-ring-k c =
    let loop = c.loop-x in
    let args = c.args in
    let pre = c.requires in
    let g = loop.invariant.2 in
    let up = g.upto in
    let same = loop.invariant.0 in
    ring_room args.t.now pre.charted.table args.v.0 loop.ring loop.k loop.x _ (omega arith) (pre.charted.chained.links (loop.x - 1) (omega arith)) g loop.invariant.1 (omega arith)

pub loop-x-smaller : goal.loop-x-smaller
loop-x-smaller c =
    let loop = c.loop-x in
    let pre = c.requires in
    let up = loop.invariant.2.upto in
    omega (arith, (pre.charted.chained.links (loop.x - 1) (omega arith)).upto)

pub loop-x-preserved : goal.loop-x-preserved
loop-x-preserved c =
    let args = c.args in
    let loop = c.loop-x in
    let pre = c.requires in
    let t = args.t.now in
    let g = loop.invariant.2 in
    let up = g.upto in
    let same = loop.invariant.0 in
    let p : 0 < loop.x = omega arith in
    let h = pre.charted.chained.links (loop.x - 1) (omega arith) in
    let r : loop.k < length loop.ring = ring_room t pre.charted.table args.v.0 loop.ring loop.k loop.x _ p h g loop.invariant.1 (omega arith) in
    let long = length-set loop.ring loop.k (get_or t (next_slot (loop.x - 1)) 0) in
    rw c.next.ensures (long ∙ same, omega arith, ring_more t pre.charted.table args.v.0 loop.ring loop.k loop.x _ p h g r)

pub returns : goal.returns
returns c =
    let loop = c.loop-x in
    let args = c.args in
    let pre = c.requires in
    record { fits = loop.invariant.1; lists = list_end args.t.now pre.charted.table args.v.0 (rw c.loop-x-test.false at loop.invariant.2) }
