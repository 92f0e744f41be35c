-- The record is told and the table shrinks: that is the step (`step_done`).
use Rattle.step.proofs.Stepping.{step_done}
use Rattle.step.proofs.contract.Goals as goal

pub returns : goal.returns
returns c =
    let args = c.args in
    let pre = c.requires in
    let record_of = c.record_of-r in
    step_done args.t.now args.kept.0 args.removed.0 pre record_of.result record_of.ensures _ c.shrink.ensures
