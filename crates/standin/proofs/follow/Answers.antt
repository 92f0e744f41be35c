-- `follow` meets its contract: `Following` holds at every place of the log.
use Rattle.standin.proofs.Following.{follow_moved, follow_stayed, follow_end}
use native.Mathlib.Omega.{arith}
use Rattle.standin.proofs.follow.Goals.{then-e-at, else-e-at}
use Rattle.standin.proofs.follow.Goals as goal

pub loop-j-preserved : goal.loop-j-preserved
loop-j-preserved c =
    let f = c.loop-j.invariant in
    let h = c.loop-j-test.true in
    let is = c.read_contracted-e.ensures in
    elim c.if-e-at.branch [
      | then-e-at w ↦ rw (w.at-is, w.moved-is) (follow_moved f h is w.if-e-at.true)
      | else-e-at w ↦ rw (w.at-is, w.moved-is) (follow_stayed f h is w.if-e-at.false)
    ]

pub returns : goal.returns
returns c = follow_end c.loop-j.invariant (omega (arith, c.loop-j-test.false))
