-- `third_of` meets its contract.
use Rattle.flip.proofs.Rowwise.{slots_inside}
use Prim.Native.Nat.{ℕ}
use lib.ListN.{get_or}
use Rattle.slots.specs.Slot.{next_slot}
use mathlib.Core.Path.{◌∙◌, ap}
use native.Mathlib.Omega.{arith}
use Rattle.flip.proofs.third_of.Goals as goal

pub next-requires-2 : goal.next-requires-2
next-requires-2 c =
    let args = c.args in
    let pre = c.requires in
    let next = c.next in
    let h = slots_inside args.t.now pre.whole args.e pre.e_in_bounds in omega (arith, h.0, next.ensures, pre.whole.most)

pub offset_bounds-t-next : goal.offset_bounds-t-next
offset_bounds-t-next c =
    let args = c.args in
    let pre = c.requires in
    let next = c.next in
    let next2 = c.next-2 in
    let h = slots_inside args.t.now pre.whole args.e pre.e_in_bounds in omega (arith, h.1, ap next_slot next.ensures, next2.ensures, pre.whole.most)

pub bounds-t-next : goal.bounds-t-next
bounds-t-next c =
    let args = c.args in
    let pre = c.requires in
    let next = c.next in
    let next2 = c.next-2 in
    let h = slots_inside args.t.now pre.whole args.e pre.e_in_bounds in omega (arith, h.1, ap next_slot next.ensures, next2.ensures)

pub returns : goal.returns
returns c =
    let args = c.args in
    let next = c.next in
    let next2 = c.next-2 in
    ap (λ (k : ℕ). get_or args.t.now k 0) (next2.ensures ∙ ap next_slot next.ensures)
