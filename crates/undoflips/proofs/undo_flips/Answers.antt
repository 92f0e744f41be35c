-- `undo_flips` meets its contract.
use mathlib.Core.Path.{refl}
use Rattle.std.proofs.lemmas.Result.{err_from_is_err_and}
use Rattle.follow.specs.Follow.{refused, followed}
use Rattle.undoflips.proofs.undo_flips.Goals as goal

pub undo_log-requires : goal.undo_log-requires
undo_log-requires c = record { corners = c.args.corners; table = c.in_ok-judge.ensures.table refl }

pub returns-in_err-judge : goal.returns-in_err-judge
returns-in_err-judge c =
    let p = err_from_is_err_and c.from_residual.result c.from_residual.ensures.1 in
    rw (p.1, p.2) (record { outcome = refused c.in_err-judge.ensures.holds refl refl })

pub returns : goal.returns
returns c =
    let judged = c.in_ok-judge.ensures in
    let f = c.undo_log.ensures.followed c.args.corners (judged.table refl) in
    record { outcome = followed (judged.holds, (judged.table refl).stage) f.reached f.left }
