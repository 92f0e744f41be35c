-- `flip_list` meets its contract.
use mathlib.Core.Path.{refl}
use Rattle.std.proofs.lemmas.Result.{err_from_is_err_and}
use Rattle.follow.specs.Follow.{refused, followed}
use Rattle.fliplist.proofs.flip_list.Goals as goal

pub returns-in_err-judge : goal.returns-in_err-judge
returns-in_err-judge c =
    let p = err_from_is_err_and c.from_residual.result c.from_residual.ensures.1 in
    rw (p.1, p.2) (record { outcome = refused c.in_err-judge.ensures.holds refl refl })

pub returns : goal.returns
returns c =
    let f = c.flip_edges.ensures.followed c.args.corners in
    let judged = c.in_ok-judge.ensures in
    record { outcome = followed (judged.holds, (judged.table refl).stage) f.reached f.left }
