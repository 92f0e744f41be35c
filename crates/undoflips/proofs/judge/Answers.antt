-- `judge` meets its contract.
use Rattle.undoflips.proofs.Judging.{judge_2, judge_on}
use Rattle.undoflips.proofs.judge.Goals as goal

pub returns-then-not-undo_fits : goal.returns-then-not-undo_fits
returns-then-not-undo_fits c =
    let args = c.args in
    let undo-fits = c.undo_fits in
    let if1 = c.if-not-undo_fits in
    judge_2 args.corners args.table.now args.log.now (undo-fits.ensures.when_false if1.true)

pub returns : goal.returns
returns c =
    let args = c.args in
    let undo-fits = c.undo_fits in
    let if1 = c.if-not-undo_fits in
    let check-stage = c.check_stage in
    judge_on args.corners args.table.now args.log.now (undo-fits.ensures.when_true if1.false) check-stage.ensures
