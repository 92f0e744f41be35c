-- `judge` meets its contract.
use Rattle.replay.proofs.Judging.{judge_2, judge_on}
use Rattle.replay.proofs.judge.Goals as goal

pub returns-then-not-replay_fits : goal.returns-then-not-replay_fits
returns-then-not-replay_fits c =
    let args = c.args in
    let replay-fits = c.replay_fits in
    let if1 = c.if-not-replay_fits in
    judge_2 args.corners args.table.now args.log.now (replay-fits.ensures.when_false if1.true)

pub returns : goal.returns
returns c =
    let args = c.args in
    let replay-fits = c.replay_fits in
    let if1 = c.if-not-replay_fits in
    let check-stage = c.check_stage in
    judge_on args.corners args.table.now args.log.now (replay-fits.ensures.when_true if1.false) check-stage.ensures
