-- `judge` meets its contract.
use Rattle.fliplist.proofs.Judging.{judge_2, judge_3, judge_on}
use native.Mathlib.Omega.{arith}
use Rattle.fliplist.proofs.judge.Goals as goal

pub returns-then-not-list_fits : goal.returns-then-not-list_fits
returns-then-not-list_fits c =
    let args = c.args in
    let list_fits_lem = c.list_fits in
    let if1 = c.if-not-list_fits in
    judge_2 args.corners args.table.now args.edges.now args.log.now (list_fits_lem.ensures.when_false if1.true)

pub returns-then-log-edges : goal.returns-then-log-edges
returns-then-log-edges c =
    let args = c.args in
    let list_fits_lem = c.list_fits in
    let if1 = c.if-not-list_fits in
    let if2 = c.if-log-edges in
    judge_3 args.corners args.table.now args.edges.now args.log.now (list_fits_lem.ensures.when_true if1.false) (omega (arith, if2.true))

pub returns : goal.returns
returns c =
    let args = c.args in
    let list_fits_lem = c.list_fits in
    let if1 = c.if-not-list_fits in
    let if2 = c.if-log-edges in
    let check-stage = c.check_stage in
    judge_on args.corners args.table.now args.edges.now args.log.now (list_fits_lem.ensures.when_true if1.false) (omega (arith, if2.false)) check-stage.ensures
