-- Each refusal by the line of 01 that it answers; what passes is a skin.
use Rattle.thin.proofs.Judging.{judge_1, judge_2, judge_3, judge_on}
use native.Mathlib.Omega.{arith}
use Rattle.thin.proofs.judge.Goals as goal

pub returns-then-no_use : goal.returns-then-no_use
returns-then-no_use c =
    let args = c.args in
    let no_use_lem = c.no_use in
    judge_1 args.a args.corners.now args.table.now args.room (no_use_lem.ensures.when_true c.if-no_use.true)

pub returns-then-not-counts_fit_at : goal.returns-then-not-counts_fit_at
returns-then-not-counts_fit_at c =
    let args = c.args in
    let no_use_lem = c.no_use in
    let if1 = c.if-no_use in
    let counts-fit-at = c.counts_fit_at in
    judge_2 args.a args.corners.now args.table.now args.room (no_use_lem.ensures.when_false if1.false) (counts-fit-at.ensures.when_false c.if-not-counts_fit_at.true)

pub overflow_sub-corners : goal.overflow_sub-corners
overflow_sub-corners c = let f = (c.counts_fit_at.ensures.when_true c.if-not-counts_fit_at.false) in omega (arith, f.coordinates.count.few)

pub returns-then-room-corners : goal.returns-then-room-corners
returns-then-room-corners c =
    let args = c.args in
    let no_use_lem = c.no_use in
    let if1 = c.if-no_use in
    let counts-fit-at = c.counts_fit_at in
    let if2 = c.if-not-counts_fit_at in
    judge_3 args.a args.corners.now args.table.now args.room (no_use_lem.ensures.when_false if1.false) (counts-fit-at.ensures.when_true if2.false) c.if-room-corners.true

pub returns : goal.returns
returns c =
    let args = c.args in
    let no_use_lem = c.no_use in
    let if1 = c.if-no_use in
    let counts-fit-at = c.counts_fit_at in
    let if2 = c.if-not-counts_fit_at in
    let if3 = c.if-room-corners in
    judge_on args.a args.corners.now args.table.now args.room (no_use_lem.ensures.when_false if1.false) (counts-fit-at.ensures.when_true if2.false) if3.false c.check_first.ensures
