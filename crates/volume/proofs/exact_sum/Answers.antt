-- `exact_sum` meets its contract.
use Rattle.std.proofs.lemmas.Result.{err_from_is_err_and}
use Rattle.volume.proofs.Laws.{exact_done, exact_refused}
use Rattle.volume.proofs.exact_sum.Goals as goal

pub returns-in_err-check_stage_at : goal.returns-in_err-check_stage_at
returns-in_err-check_stage_at c =
    let p = err_from_is_err_and c.from_residual.result c.from_residual.ensures.1 in
    rw (p.1, p.2) (exact_refused c.check_stage_at.ensures c.in_err-check_stage_at.was)

pub returns : goal.returns
returns c = exact_done c.check_stage_at.ensures c.in_ok-check_stage_at.was c.exact_sum_of.ensures
