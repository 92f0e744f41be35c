-- `note` meets its contract.
use Rattle.slots.proofs.Slots.{next_inside}
use Rattle.noted.proofs.Notes.{note_more}
use lib.ListN.{length}
use Rattle.slots.specs.Slot.{next_slot}
use native.Mathlib.Omega.{arith}
use Rattle.noted.proofs.note.Goals as goal

pub offset_bounds-t-next : goal.offset_bounds-t-next
offset_bounds-t-next c =
    let pre = c.requires in
    let next = c.next in
    let args = c.args in
    omega (arith, pre.whole.most, next.ensures, next_inside (length args.t.now) args.e pre.whole.threes pre.e_in_bounds)

pub bounds-t-next : goal.bounds-t-next
bounds-t-next c =
    let next = c.next in
    let args = c.args in
    let pre = c.requires in
    omega (arith, next.ensures, next_inside (length args.t.now) args.e pre.whole.threes pre.e_in_bounds)

pub returns : goal.returns
returns c =
    let next = c.next in
    let args = c.args in
    let pre = c.requires in
    let if1 = c.if-t-e in
    rw next.ensures (note_more args.t.now args.kept.0 args.e args.at.now pre.noted_to if1.false (pre.under.under (next_slot args.e) (next_inside (length args.t.now) args.e pre.whole.threes pre.e_in_bounds)))
