-- v is blocked, or goes into u.
use mathlib.Core.Path.{refl}
use mathlib.Core.Logic.{inl, inr}
use lib.Seq.{length-take-le}
use Rattle.waiting.proofs.Waiters.{waiters_fewer}
use Rattle.around.proofs.Nears.{ring_listed}
use Rattle.quick.proofs.Grounds.{held_stage, ground_room, ground_inside, mapped}
use Rattle.quick.proofs.Finishing.{progress_none, progress_one}
use Rattle.quick.proofs.Trying.{u_small, four_blocks, up, edge, v_small, v_there, next_at, three_meets, not_three_blocks, waited, round_blocked, waits_again, round_step}
use native.Mathlib.Omega.{arith}
use Rattle.quick.proofs.attempt.Goals as goal

pub returns-then-total-done-le4 : goal.returns-then-total-done-le4
returns-then-total-done-le4 c =
    let if1 = c.if-total-done-le4 in
    let take = c.take in
    let pre = c.requires in
    let args = c.args in
    record { round = round_blocked pre.at_open_corner pre.least_waits take.ensures (four_blocks pre.at_open_corner if1.true); progress = progress_none args.u args.held.now args.log.now args.done (ground_inside pre.at_open_corner.ground); fell = inr (refl, waiters_fewer take.ensures pre.least_waits.member); again = λ w m. inl (waited pre.at_open_corner pre.least_waits take.ensures w m) }

pub walk-walked-requires : goal.walk-walked-requires
walk-walked-requires c =
    let pre = c.requires in
    record { mapped = mapped pre.at_open_corner.ground (let z = up pre.at_open_corner pre.least_waits in omega arith) (v_small pre.at_open_corner pre.least_waits) (v_there pre.at_open_corner pre.least_waits); holds_some_stage = held_stage pre.at_open_corner.ground; v_lt_most_corners = v_small pre.at_open_corner pre.least_waits; mark_len = (pre.at_open_corner.ground.marks.size, λ q. let z = pre.at_open_corner.ground.marks.no_corner in omega arith); most_slots_in_bounds = omega arith }

pub returns-then-walked-ne3 : goal.returns-then-walked-ne3
returns-then-walked-ne3 c =
    let if2 = c.if-walked-ne3 in
    let walk = c.walk-walked in
    let take = c.take in
    let pre = c.requires in
    let args = c.args in
    record { round = round_blocked pre.at_open_corner pre.least_waits take.ensures (not_three_blocks pre.at_open_corner pre.least_waits walk.ensures.rings walk.ensures.marked if2.true); progress = progress_none args.u args.held.now args.log.now args.done (ground_inside pre.at_open_corner.ground); fell = inr (refl, waiters_fewer take.ensures pre.least_waits.member); again = λ w m. inl (waited pre.at_open_corner pre.least_waits take.ensures w m) }

pub meet-requires : goal.meet-requires
meet-requires c =
    let walk = c.walk-walked in
    let take = c.take in
    let pre = c.requires in
    record { listed = ring_listed pre.at_open_corner.ground.held (v_small pre.at_open_corner pre.least_waits) walk.ensures.rings; mark_len = (pre.at_open_corner.ground.marks.size, u_small pre.at_open_corner (edge pre.at_open_corner pre.least_waits)) }

pub step-e-requires-clause-ready : goal.step-e-requires-clause-ready
step-e-requires-clause-ready c =
    let if2 = c.if-walked-ne3 in
    let walk = c.walk-walked in
    let if1 = c.if-total-done-le4 in
    let pre = c.requires in
    let args = c.args in
    record { corners = args.n; held = pre.at_open_corner.ground.held; rings = walk.ensures.rings; tallied = pre.at_open_corner.ground.tallied; rises = up pre.at_open_corner pre.least_waits; meets = (three_meets pre.at_open_corner pre.least_waits walk.ensures.rings (λ z. let q = if1.false in omega arith) walk.ensures.marked if2.false) }

pub overflow_mul-done-2 : goal.overflow_mul-done-2
overflow_mul-done-2 c =
    let if2 = c.if-walked-ne3 in
    let walk = c.walk-walked in
    let if1 = c.if-total-done-le4 in
    let pre = c.requires in
    omega (arith, ground_room pre.at_open_corner.ground (three_meets pre.at_open_corner pre.least_waits walk.ensures.rings (λ z. let q = if1.false in omega arith) walk.ensures.marked if2.false))

pub write_record-requires : goal.write_record-requires
write_record-requires c =
    let if2 = c.if-walked-ne3 in
    let walk = c.walk-walked in
    let if1 = c.if-total-done-le4 in
    let pre = c.requires in
    ground_room pre.at_open_corner.ground (three_meets pre.at_open_corner pre.least_waits walk.ensures.rings (λ z. let q = if1.false in omega arith) walk.ensures.marked if2.false)

pub returns : goal.returns
returns c =
    let write-record = c.write_record in
    let step = c.step-e in
    let meet = c.meet in
    let unchanged = c.unchanged in
    let if2 = c.if-walked-ne3 in
    let walk = c.walk-walked in
    let if1 = c.if-total-done-le4 in
    let take = c.take in
    let pre = c.requires in
    let args = c.args in
    let p = progress_one args.u args.held.now args.log.now args.done _ _ _ step.ensures.kept_is (rw step.ensures.removed_is (next_at pre.at_open_corner pre.least_waits (three_meets pre.at_open_corner pre.least_waits walk.ensures.rings (λ z. let q = if1.false in omega arith) walk.ensures.marked if2.false))) step.ensures.replays (ground_room pre.at_open_corner.ground (three_meets pre.at_open_corner pre.least_waits walk.ensures.rings (λ z. let q = if1.false in omega arith) walk.ensures.marked if2.false)) write-record.ensures in
    record {
      round = round_step pre.at_open_corner pre.least_waits take.ensures walk.ensures.rings (three_meets pre.at_open_corner pre.least_waits walk.ensures.rings (λ z. let q = if1.false in omega arith) walk.ensures.marked if2.false) (length-take-le _ _ walk.ensures.fits) unchanged.ensures meet.ensures step.ensures _ p.logged.same;
      progress = p;
      fell = inl refl;
      again = λ w m. waits_again pre.at_open_corner pre.least_waits take.ensures walk.ensures.rings (three_meets pre.at_open_corner pre.least_waits walk.ensures.rings (λ z. let q = if1.false in omega arith) walk.ensures.marked if2.false) (length-take-le _ _ walk.ensures.fits) unchanged.ensures meet.ensures step.ensures w m;
    }
