-- u is passed by if it is gone; else its neighbours wait, and are tried until none waits.
use Rattle.around.proofs.Nears.{ring_listed}
use Rattle.quick.proofs.Grounds.{ground_inside}
use Rattle.quick.proofs.Finishing.{progress_none, progress_on, corner_small, round_open, passed_by, none_left, fell_less}
use Rattle.quick.proofs.finish.Goals as goal

pub returns-then-work-u-eq-GONE : goal.returns-then-work-u-eq-GONE
returns-then-work-u-eq-GONE c =
    let if1 = c.if-work-u-eq-GONE in
    let pre = c.requires in
    passed_by pre.before_corner pre.u_lt_n if1.true

pub meet-requires : goal.meet-requires
meet-requires c =
    let walk = c.walk-walked in
    let pre = c.requires in
    record { listed = ring_listed pre.before_corner.ground.held (corner_small pre.before_corner pre.u_lt_n) walk.ensures.rings; mark_len = (pre.before_corner.ground.marks.size, (corner_small pre.before_corner pre.u_lt_n)) }

pub loop-v-init : goal.loop-v-init
loop-v-init c =
    let pre = c.requires in
    (round_open pre.before_corner pre.u_lt_n c.walk-walked.ensures.rings c.if-work-u-eq-GONE.false c.meet.ensures, progress_none c.args.u c.args.held.now c.args.log.now c.args.done (ground_inside pre.before_corner.ground))

pub loop-v-smaller : goal.loop-v-smaller
loop-v-smaller c = fell_less c.loop-v.invariant.0 c.attempt-d.ensures

pub loop-v-preserved : goal.loop-v-preserved
loop-v-preserved c = (c.attempt-d.ensures.round, progress_on c.loop-v.invariant.1 c.attempt-d.ensures.progress)

pub returns : goal.returns
returns c = none_left c.loop-v.invariant.0 c.in_default.ensures c.loop-v.invariant.1
