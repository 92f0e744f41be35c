-- `grow_back` meets its contract.
use mathlib.Core.Path.{refl}
use Rattle.std.proofs.lemmas.Result.{err_from_is_err_and}
use Rattle.follow.specs.Follow.{refused, followed}
use Rattle.regrow.proofs.Ready.{grow_ready}
use Rattle.regrow.proofs.grow_back.Goals as goal

pub grow_log-requires : goal.grow_log-requires
grow_log-requires c =
    let args = c.args in
    grow_ready args.corners args.rows args.room.now args.log.now (rw c.in_ok-judge.was at c.judge.ensures)

pub returns-in_err-judge : goal.returns-in_err-judge
returns-in_err-judge c =
    let p = err_from_is_err_and c.from_residual.result c.from_residual.ensures.1 in
    rw (p.1, p.2) (record { outcome = refused (rw c.in_err-judge.was at c.judge.ensures.holds) refl refl })

pub returns : goal.returns
returns c =
    let judge = c.judge in
    let grow-log = c.grow_log in
    record { outcome = followed (rw c.in_ok-judge.was at judge.ensures.holds, judge.ensures.stage c.in_ok-judge.was) grow-log.ensures.reached grow-log.ensures.left }
