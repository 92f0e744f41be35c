-- Neighbour by neighbour (`Met`).
use mathlib.Core.Path.{sym}
use Rattle.around.specs.InnerRing.{next_to}
use Rattle.around.proofs.Nears.{next_to_length, next_to_at}
use Rattle.around.proofs.Meeting.{place_inside, corner_below, told, told_not, met_more}
use native.Mathlib.Omega.{arith}
use Rattle.around.proofs.meet.Goals.{then-m-but, else-m-but}
use Rattle.around.proofs.meet.Goals as goal

pub bounds-held-x : goal.bounds-held-x
bounds-held-x c = place_inside c.requires.listed c.loop-x-test.true

pub bounds-mark-w : goal.bounds-mark-w
bounds-mark-w c = omega (arith, corner_below c.requires.listed c.loop-x-test.true, c.requires.mark_len.0)

pub bounds-mark-w-in-loop-x : goal.bounds-mark-w-in-loop-x
bounds-mark-w-in-loop-x c = omega (arith, corner_below c.requires.listed c.loop-x-test.true, c.requires.mark_len.0)

pub put-requires : goal.put-requires
put-requires c = corner_below c.requires.listed c.loop-x-test.true

pub loop-x-preserved : goal.loop-x-preserved
loop-x-preserved c =
    let args = c.args in
    let pre = c.requires in
    let loop = c.loop-x in
    let i = c.loop-x-test.true in
    let l = next_to args.held.now args.ring.now in
    let long = next_to_length args.held.now args.ring.now in
    met_more args.u args.but l args.mark.now args.waiting.now loop.mark loop.waiting loop.x-index _ (omega arith) (sym (next_to_at args.held.now args.ring.now loop.x-index i)) (omega (arith, corner_below pre.listed i, pre.mark_len.0)) loop.invariant
    (elim c.if-m-but.branch [
      | then-m-but w ↦ told w.if-m-but.true w.put-is
      | else-m-but w ↦ told_not w.if-m-but.false w.put-is
    ])
    c.put.ensures
