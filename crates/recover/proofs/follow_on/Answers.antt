-- `follow_on` meets its contract: the records are followed, and the engine goes on from the stage handed over.
use Rattle.std.proofs.lemmas.Result.{err_from_is_err_and}
use Rattle.recover.proofs.Going.{can_hand_over, failed, rows_there, can_go_on, went_on}
use borrow.Author.Rules.{rules}
use Rattle.recover.proofs.follow_on.Goals as goal

pub hand_over-requires : goal.hand_over-requires
hand_over-requires c = can_hand_over c.requires

pub returns-in_err-k : goal.returns-in_err-k
returns-in_err-k c =
    let p = err_from_is_err_and c.from_residual.result c.from_residual.ensures.1 in
    rw (p.1, p.2) (failed c.requires _ c.in_err-k.ensures)

pub overflow_mul-k : goal.overflow_mul-k
overflow_mul-k c = let h = rows_there c.requires c.in_ok-k.ensures in search rules

pub overflow_sub-rows : goal.overflow_sub-rows
overflow_sub-rows c = rows_there c.requires c.in_ok-k.ensures

pub go_on-all-requires : goal.go_on-all-requires
go_on-all-requires c = record { can_go_on = can_go_on c.requires c.in_ok-k.ensures; measurable = c.requires.measurable }

pub returns : goal.returns
returns c = went_on c.requires c.in_ok-k.ensures c.go_on-all.ensures
