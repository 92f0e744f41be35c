-- Refused by the verdict, or the engine from 0.
use mathlib.Core.Path.{◌≡◌, refl, ◌∙◌, ap}
use Rattle.std.specs.Prelude.{Err}
use lib.ListN.{length}
use Rattle.std.proofs.lemmas.Result.{err_from_is_err_and}
use Rattle.thin.proofs.Engaged.{thin_ready, thin_measured, thin_done, thin_refused}
use Rattle.thin.proofs.thin_as.Goals as goal

pub go_on-requires : goal.go_on-requires
go_on-requires c =
    let args = c.args in
    let j = rw c.in_ok-judge.was at c.judge.ensures in
    record {
      can_go_on = thin_ready args.a args.corners.now args.table.now (length args.log.now) j args.log.now refl;
      measurable = thin_measured args.a args.corners.now args.table.now (length args.log.now) j _ c.in_ok-bound.was c.requires;
    }

pub returns-in_err-judge : goal.returns-in_err-judge
returns-in_err-judge c =
    let p = err_from_is_err_and c.from_residual.result c.from_residual.ensures.1 in
    rw (p.1, p.2) (thin_refused (rw c.in_err-judge.was at c.judge.ensures) refl)

pub returns-in_err-bound : goal.returns-in_err-bound
returns-in_err-bound c = let p = rw c.in_ok-judge.was at c.judge.ensures in let e : c.args.a ≡ Err c.in_err-bound.field-0.0 = c.in_err-bound.was in absurd (p.usable refl (e ∙ ap Err (rw e at c.requires)))

pub returns : goal.returns
returns c =
    thin_done c.args.a c.args.corners.now c.args.table.now (length c.args.log.now) (rw c.in_ok-judge.was at c.judge.ensures) _ c.in_ok-bound.was c.args.log.now refl c.go_on.result _ _ c.go_on.ensures
