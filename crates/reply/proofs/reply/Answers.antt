-- `reply` meets its contract: the sheet is refused and its number told, or what it holds is thinned and told.
use mathlib.Core.Path.{sym}
use Rattle.reply.specs.Inner.{ReadSkin}
use Rattle.reply.proofs.Sheets.{refusal_told, skin_told}
use native.Mathlib.Omega.{arith}
use borrow.Author.Rules.{rules}
use Rattle.reply.proofs.reply.Goals as goal

pub overflow_mul-table : goal.overflow_mul-table
unfolding ReadSkin
overflow_mul-table c = let h = c.in-Ok.ensures.form.counts.most in search rules

pub slice_bounds-table-end : goal.slice_bounds-table-end
unfolding ReadSkin
slice_bounds-table-end c = let h = c.in-Ok.ensures.form.counts.most in omega (arith, c.read_skin.auto.table)

pub slice_bounds-thinned-end : goal.slice_bounds-thinned-end
unfolding ReadSkin
slice_bounds-thinned-end c = sym c.in-Ok.ensures.form.sheet.rows

pub overflow_mul-corners : goal.overflow_mul-corners
unfolding ReadSkin
overflow_mul-corners c = let h = c.in-Ok.ensures.form.counts.many in search rules

pub slice_bounds-corners-end : goal.slice_bounds-corners-end
unfolding ReadSkin
slice_bounds-corners-end c = let h = c.in-Ok.ensures.form.counts.many in omega (arith, c.read_skin.auto.corners)

pub slice_bounds-thinned-end-in-Ok : goal.slice_bounds-thinned-end-in-Ok
unfolding ReadSkin
slice_bounds-thinned-end-in-Ok c = sym c.in-Ok.ensures.form.sheet.corners

pub thinned-requires : goal.thinned-requires
unfolding ReadSkin
thinned-requires c = c.in-Ok.ensures.skin

pub returns-in-Ok : goal.returns-in-Ok
unfolding ReadSkin
returns-in-Ok c = skin_told c.in-Ok.ensures c.thinned.ensures

pub returns-in-Err : goal.returns-in-Err
unfolding ReadSkin
returns-in-Err c = refusal_told c.in-Err.ensures c.tell_refusal.ensures
