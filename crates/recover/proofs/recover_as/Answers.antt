-- `recover_as` meets its contract: thinning's refusals, the cut sheet's, and then the records followed.
use mathlib.Core.Path.{◌≡◌, refl, sym, ◌∙◌, ap}
use lib.Seq.{length-take-le}
use Rattle.std.specs.Prelude.{Err}
use Rattle.std.proofs.lemmas.Result.{err_from_is_err_and}
use Rattle.logcut.specs.Inner.{ReadCut}
use Rattle.recover.proofs.Judging.{thin_refused, can_keep, cut_refused, few_kept, can_recover, recovered}
use native.Mathlib.Omega.{arith}
use borrow.Author.Rules.{rules}
use Rattle.recover.proofs.recover_as.Goals as goal

pub returns-in_err-judge : goal.returns-in_err-judge
returns-in_err-judge c =
    let p = err_from_is_err_and c.from_residual.result c.from_residual.ensures.1 in
    rw (p.1, p.2) (thin_refused c.args.log.now c.args.bytes.now c.in_err-judge.ensures)

pub returns-in_err-bound : goal.returns-in_err-bound
returns-in_err-bound c = let e : c.args.a ≡ Err c.in_err-bound.field-0.0 = c.in_err-bound.was in absurd (c.in_ok-judge.ensures.usable refl (e ∙ ap Err (rw e at c.requires)))

pub read_cut-requires : goal.read_cut-requires
read_cut-requires c = can_keep c.args.log.now c.args.bytes.now c.in_ok-judge.ensures

pub returns-in_err-k : goal.returns-in_err-k
unfolding ReadCut
returns-in_err-k c =
    let p = err_from_is_err_and c.from_residual-in_err-k.result c.from_residual-in_err-k.ensures.1 in
    rw (p.1, p.2) (cut_refused c.args.log.now c.args.bytes.now c.in_ok-judge.ensures c.in_err-k.ensures)

pub overflow_mul-end : goal.overflow_mul-end
unfolding ReadCut
overflow_mul-end c = let h = few_kept c.args.log.now c.args.bytes.now c.in_ok-judge.ensures c.in_ok-k.ensures in search rules

pub slice_bounds-kept-end : goal.slice_bounds-kept-end
unfolding ReadCut
slice_bounds-kept-end c = let h = few_kept c.args.log.now c.args.bytes.now c.in_ok-judge.ensures c.in_ok-k.ensures in omega (arith, c.read_cut.auto.room)

pub slice_bounds-follow_on-end : goal.slice_bounds-follow_on-end
unfolding ReadCut
slice_bounds-follow_on-end c =
    let h = few_kept c.args.log.now c.args.bytes.now c.in_ok-judge.ensures c.in_ok-k.ensures in
    sym (length-take-le _ _ (omega (arith, c.read_cut.auto.room)))

pub follow_on-requires : goal.follow_on-requires
unfolding ReadCut
follow_on-requires c = can_recover c.args.log.now c.args.bytes.now c.in_ok-judge.ensures c.in_ok-k.ensures c.in_ok-bound.was c.requires

pub returns : goal.returns
unfolding ReadCut
returns c = recovered c.args.log.now c.args.bytes.now c.in_ok-judge.ensures c.in_ok-k.ensures c.in_ok-bound.was c.follow_on.ensures
