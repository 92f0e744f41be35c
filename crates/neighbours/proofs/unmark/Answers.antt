-- `unmark` meets its contract.
use Rattle.surface.proofs.Flat.{at_place}
use Rattle.neighbours.proofs.Marking.{unmark_more, unmark_end}
use native.Mathlib.Omega.{arith}
use Rattle.neighbours.proofs.unmark.Goals as goal

pub bounds-m-w : goal.bounds-m-w
bounds-m-w c = omega (arith, c.requires.corners _ (at_place c.args.ring.now c.loop-w.w-index 0 c.loop-w-test.true))

pub loop-w-preserved : goal.loop-w-preserved
loop-w-preserved c = unmark_more c.args.ring.now c.loop-w.m c.loop-w.w-index c.loop-w-test.true (bounds-m-w c) c.loop-w.invariant

pub returns : goal.returns
returns c = unmark_end c.args.ring.now c.loop-w.m c.loop-w.w-index c.loop-w-test.false (omega arith) c.loop-w.invariant
