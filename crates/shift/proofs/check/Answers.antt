-- `check` meets its contract.
use mathlib.Core.Logic.{inl, inr}
use Rattle.shift.proofs.Checking.{refuse_2, refuse_4, refuse_5, all_clear}
use native.Mathlib.Omega.{arith}
use Rattle.shift.proofs.check.Goals as goal
use Rattle.shift.proofs.check.Goals.{then-n-corner-via-then-n-corner, then-n-corner-via-else-n-corner+then-past_in}

pub returns-then-not-shift_fits : goal.returns-then-not-shift_fits
returns-then-not-shift_fits c =
    let args = c.args in
    refuse_2 args.corners.now args.log.now args.corner (c.shift_fits.ensures.when_false c.if-not-shift_fits.true)

pub returns-then-out_of_range : goal.returns-then-out_of_range
returns-then-out_of_range c =
    let args = c.args in
    refuse_4 args.corners.now args.log.now args.corner (c.shift_fits.ensures.when_true c.if-not-shift_fits.false) (c.out_of_range.ensures.when_true c.if-out_of_range.true)

pub returns-then-n-corner : goal.returns-then-n-corner
returns-then-n-corner c =
    let args = c.args in
    refuse_5 args.corners.now args.log.now args.corner (c.shift_fits.ensures.when_true c.if-not-shift_fits.false) (c.out_of_range.ensures.when_false c.if-out_of_range.false) (elim c.then-n-corner.branch [
      | then-n-corner-via-then-n-corner w ↦ inl (omega arith)
      | then-n-corner-via-else-n-corner+then-past_in w ↦ inr (w.past_in.ensures.when_true w.if-past_in.true)
    ])

pub returns : goal.returns
returns c =
    let args = c.args in
    all_clear args.corners.now args.log.now args.corner (c.shift_fits.ensures.when_true c.if-not-shift_fits.false) (c.out_of_range.ensures.when_false c.if-out_of_range.false) (omega arith) (c.past_in.ensures.when_false c.if-past_in.false)
