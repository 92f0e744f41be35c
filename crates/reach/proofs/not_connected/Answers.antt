-- `not_connected` meets its contract.
use Rattle.surface.specs.Limits.{most_corners}
use Rattle.slots.proofs.Marks.{no_mark}
use Rattle.refusal.proofs.Tells.{tells_true, tells_false}
use Rattle.reach.proofs.Growing.{parted_at, connected_all}
use native.Mathlib.Omega.{arith}
use Rattle.reach.proofs.not_connected.Goals as goal

pub reach_all-requires : goal.reach_all-requires
reach_all-requires c =
    let pre = c.requires in
    record { whole = pre.whole; chained = pre.chained; under = pre.under; t_nonzero = pre.t_nonzero; m_in_bounds = pre.most_corners_in_bounds; m_in_bounds_2 = omega arith; blank = record { blank = λ k. no_mark most_corners k } }

pub returns-then-m-v-eq0 : goal.returns-then-m-v-eq0
returns-then-m-v-eq0 c = tells_true (parted_at c.args.t.now c.requires.whole _ c.loop-v.v-index c.loop-v-test.true c.reach_all.ensures c.if-m-v-eq0.true)

pub returns : goal.returns
returns c =
    let i = c.loop-v.invariant in
    tells_false (connected_all c.args.t.now c.requires.whole _ c.reach_all.ensures c.requires.both_ways (λ e h. i e (omega arith)))
