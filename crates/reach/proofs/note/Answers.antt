-- `note` meets its contract.
use Rattle.slots.proofs.Marks.{zeros_set}
use native.Mathlib.Omega.{arith}
use Rattle.reach.proofs.note.Goals as goal

pub bounds-q-l : goal.bounds-q-l
bounds-q-l c =
    let pre = c.requires in
    omega (arith, pre.m_value, pre.m_in_bounds, zeros_set c.args.m.now c.args.w pre.w_in_bounds c.if-m-w-ne0.false)
