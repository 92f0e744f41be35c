-- `replay` meets its contract.
use mathlib.Core.Path.{refl}
use Rattle.std.proofs.lemmas.Result.{err_from_is_err_and}
use Rattle.follow.specs.Follow.{refused, followed}
use Rattle.replay.proofs.replay.Goals as goal

pub replay_log-requires : goal.replay_log-requires
replay_log-requires c = c.judge.ensures.stage c.in_ok-judge.was

pub returns-in_err-judge : goal.returns-in_err-judge
returns-in_err-judge c =
    let p = err_from_is_err_and c.from_residual.result c.from_residual.ensures.1 in
    rw (p.1, p.2) (record { outcome = refused (rw c.in_err-judge.was at c.judge.ensures.holds) refl refl })

pub returns : goal.returns
returns c =
    let judge = c.judge in
    let replay-log = c.replay_log in
    record { outcome = followed (rw c.in_ok-judge.was at judge.ensures.holds, (judge.ensures.stage c.in_ok-judge.was).stage) replay-log.ensures.reached replay-log.ensures.left }
