-- `read_skin` meets its contract: refused for its form, or for what it holds, or read.
use mathlib.Core.Path.{sym}
use Rattle.std.proofs.lemmas.Result.{err_from_is_err_and}
use Rattle.form.specs.Inner.{ReadForm}
use Rattle.reply.specs.Outcome.{bad_form}
use Rattle.reply.specs.Inner.{ReadSkin}
use Rattle.reply.proofs.Sheets.{skin_refused, skin_read}
use native.Mathlib.Omega.{arith}
use borrow.Author.Rules.{rules}
use Rattle.reply.proofs.read_skin.Goals as goal

pub overflow_mul-m : goal.overflow_mul-m
unfolding ReadForm
overflow_mul-m c = let h = c.in_ok-n.ensures.counts.most in search rules

pub slice_bounds-check_first-end : goal.slice_bounds-check_first-end
unfolding ReadForm
slice_bounds-check_first-end c = let h = c.in_ok-n.ensures.counts.most in omega (arith, c.requires.rows, c.read_form.auto.t)

pub slice_bounds-check_first-end-2 : goal.slice_bounds-check_first-end-2
unfolding ReadForm
slice_bounds-check_first-end-2 c = sym c.in_ok-n.ensures.sheet.rows

pub overflow_mul-n : goal.overflow_mul-n
unfolding ReadForm
overflow_mul-n c = let h = c.in_ok-n.ensures.counts.many in search rules

pub slice_bounds-check_first-end-3 : goal.slice_bounds-check_first-end-3
unfolding ReadForm
slice_bounds-check_first-end-3 c = let h = c.in_ok-n.ensures.counts.many in omega (arith, c.requires.corners, c.read_form.auto.xs)

pub slice_bounds-check_first-end-4 : goal.slice_bounds-check_first-end-4
unfolding ReadForm
slice_bounds-check_first-end-4 c = sym c.in_ok-n.ensures.sheet.corners

pub returns-in_err-n : goal.returns-in_err-n
unfolding ReadForm ReadSkin
returns-in_err-n c =
    let p = err_from_is_err_and c.from_residual.result c.from_residual.ensures.1 in
    rw (p.1, p.2) (bad_form c.in_err-n.ensures)

pub returns-in_err-check_first : goal.returns-in_err-check_first
unfolding ReadForm ReadSkin
returns-in_err-check_first c =
    let p = err_from_is_err_and c.from_residual-in_err-check_first.result c.from_residual-in_err-check_first.ensures.1 in
    rw (p.1, p.2) (skin_refused c.in_ok-n.ensures c.in_err-check_first.ensures)

pub returns : goal.returns
unfolding ReadForm ReadSkin
returns c = skin_read c.in_ok-n.ensures c.in_ok-check_first.ensures
