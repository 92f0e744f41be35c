-- `judge` meets its contract.
use mathlib.Core.Path.{sym}
use lib.Seq.{length-take-le}
use Rattle.growable.proofs.Judging.{judge_2, judge_3, judge_on}
use native.Mathlib.Omega.{arith}
use Rattle.growable.proofs.judge.Goals as goal

pub returns-then-not-grow_fits : goal.returns-then-not-grow_fits
returns-then-not-grow_fits c =
    let args = c.args in
    let grow-fits = c.grow_fits in
    let if1 = c.if-not-grow_fits in
    judge_2 args.corners args.rows args.room.now args.log.now (grow-fits.ensures.when_false if1.true)

pub overflow_add-rows : goal.overflow_add-rows
overflow_add-rows c =
    let grow-fits = c.grow_fits in
    let if1 = c.if-not-grow_fits in
    omega (arith, (grow-fits.ensures.when_true if1.false).most)

pub overflow_mul-rows : goal.overflow_mul-rows
overflow_mul-rows c =
    let grow-fits = c.grow_fits in
    let if1 = c.if-not-grow_fits in
    omega (arith, (grow-fits.ensures.when_true if1.false).most)

pub returns-then-room-rows : goal.returns-then-room-rows
returns-then-room-rows c =
    let args = c.args in
    let grow-fits = c.grow_fits in
    let if1 = c.if-not-grow_fits in
    let if2 = c.if-room-rows in
    judge_3 args.corners args.rows args.room.now args.log.now (grow-fits.ensures.when_true if1.false) if2.true

pub slice_bounds-check_stage-end : goal.slice_bounds-check_stage-end
slice_bounds-check_stage-end c = sym (length-take-le _ _ (omega arith))

pub returns : goal.returns
returns c =
    let args = c.args in
    let grow-fits = c.grow_fits in
    let if1 = c.if-not-grow_fits in
    let if2 = c.if-room-rows in
    let check-stage = c.check_stage in
    judge_on args.corners args.rows args.room.now args.log.now (grow-fits.ensures.when_true if1.false) if2.false check-stage.ensures
