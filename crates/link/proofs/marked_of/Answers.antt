-- `marked_of` meets its contract.
use Rattle.surface.proofs.Flat.{at_place}
use Rattle.link.proofs.Tally.{count_none, count_past, count_more}
use native.Mathlib.Omega.{arith}
use Rattle.link.proofs.marked_of.Goals.{then-marks-w-ne0, else-marks-w-ne0}
use Rattle.link.proofs.marked_of.Goals as goal

pub loop-w-init : goal.loop-w-init
loop-w-init c = (omega arith, count_none _ c.args.ring.now)

pub bounds-marks-w : goal.bounds-marks-w
bounds-marks-w c = omega (arith, c.requires.distinct.1 _ (at_place c.args.ring.now c.loop-w.w-index 0 c.loop-w-test.true))

pub loop-w-preserved : goal.loop-w-preserved
loop-w-preserved c =
    let h = c.loop-w-test.true in
    elim c.if-marks-w-ne0.branch [
      | then-marks-w-ne0 w ↦ rw w.k-is (omega arith, count_more _ _ c.loop-w.w-index h c.requires.distinct.0 w.if-marks-w-ne0.true c.loop-w.invariant.1)
      | else-marks-w-ne0 w ↦ rw w.k-is (omega arith, count_past _ _ c.loop-w.w-index h (λ n. n w.if-marks-w-ne0.false) c.loop-w.invariant.1)
    ]
