-- `read_sheet` meets its contract: refused for its form, or what it holds is delivered.
use mathlib.Core.Path.{refl, sym}
use Rattle.std.proofs.lemmas.Result.{err_from_is_err_and}
use Rattle.form.specs.Inner.{ReadForm}
use Rattle.sheet.specs.Outcome.{bad_form}
use Rattle.form.proofs.Within.{its_held}
use Rattle.sheet.proofs.Last.{whole_outcome}
use native.Mathlib.Omega.{arith}
use borrow.Author.Rules.{rules}
use Rattle.sheet.proofs.read_sheet.Goals as goal

pub overflow_mul-xs : goal.overflow_mul-xs
unfolding ReadForm
overflow_mul-xs c =
    let f = c.in_ok-n.ensures in let h = f.counts.many in search rules

pub overflow_mul-t : goal.overflow_mul-t
unfolding ReadForm
overflow_mul-t c =
    let f = c.in_ok-n.ensures in let h = f.counts.most in search rules

pub slice_bounds-xs-end : goal.slice_bounds-xs-end
unfolding ReadForm
slice_bounds-xs-end c =
    let xs2 = c.read_form in
    let f = c.in_ok-n.ensures in let h = f.counts.many in omega (arith, xs2.auto.xs)

pub slice_bounds-deliver-end : goal.slice_bounds-deliver-end
unfolding ReadForm
slice_bounds-deliver-end c =
    let f = c.in_ok-n.ensures in sym f.sheet.corners

pub slice_bounds-t-end : goal.slice_bounds-t-end
unfolding ReadForm
slice_bounds-t-end c =
    let t2 = c.read_form in
    let f = c.in_ok-n.ensures in let h = f.counts.most in omega (arith, t2.auto.t)

pub slice_bounds-deliver-end-2 : goal.slice_bounds-deliver-end-2
unfolding ReadForm
slice_bounds-deliver-end-2 c =
    let f = c.in_ok-n.ensures in sym f.sheet.rows

pub deliver-requires : goal.deliver-requires
unfolding ReadForm
deliver-requires c =
    its_held (c.in_ok-n.ensures)

pub returns-in_err-n : goal.returns-in_err-n
unfolding ReadForm
returns-in_err-n c =
    let p = err_from_is_err_and c.from_residual.result c.from_residual.ensures.1 in
    rw (p.1, p.2) (bad_form c.in_err-n.ensures refl refl refl)

pub returns : goal.returns
unfolding ReadForm
returns c =
    let deliver = c.deliver in
    whole_outcome (c.in_ok-n.ensures) deliver.ensures
