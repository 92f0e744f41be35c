-- The walk (`Walking`) goes along the list of the first table.
use mathlib.Core.Path.{◌≡◌}
use Prim.Native.Nat.{◌+◌}
use native.Mathlib.Nat.{add-zero}
use lib.ListN.{get_or}
use Rattle.around.proofs.Walking.{walk_start, place_held, number_most, walk_more, walk_end, few_marked, listed_at}
use native.Mathlib.Omega.{arith}
use Rattle.around.proofs.walk.Goals as goal

pub loop-x-init : goal.loop-x-init
loop-x-init c = rw add-zero (walk_start c.args.mark.now c.args.stamp c.args.ring.now c.requires.mapped c.requires.v_lt_most_corners)

pub bounds-held-x : goal.bounds-held-x
bounds-held-x c =
    let at = listed_at c.args.list.now _ _ c.loop-x.x-index c.loop-x-test.true in
    rw at.1 (place_held c.loop-x.invariant at.0 c.requires.holds_some_stage c.requires.v_lt_most_corners)

pub bounds-mark-w : goal.bounds-mark-w
bounds-mark-w c =
    let at = listed_at c.args.list.now _ _ c.loop-x.x-index c.loop-x-test.true in
    let most = number_most c.loop-x.invariant at.0 c.requires.holds_some_stage c.requires.v_lt_most_corners in
    rw at.1 (omega (arith, c.requires.mark_len.0))

pub loop-x-preserved : goal.loop-x-preserved
loop-x-preserved c =
    let pre = c.requires in
    let at = listed_at c.args.list.now _ _ c.loop-x.x-index c.loop-x-test.true in
    let next : get_or c.args.start.now c.args.v 0 + (c.loop-x.x-index + 1) ≡ get_or c.args.start.now c.args.v 0 + c.loop-x.x-index + 1 = omega arith in
    rw (next, at.1) (walk_more c.loop-x.invariant at.0 pre.holds_some_stage pre.v_lt_most_corners (omega arith) pre.mark_len.1 (rw at.1 at c.from-k.ensures) (rw at.1 at c.from-c.ensures))

pub overflow_add-c : goal.overflow_add-c
overflow_add-c c = let few = few_marked (loop-x-preserved c) in omega arith

pub returns : goal.returns
returns c = walk_end c.requires.holds_some_stage c.loop-x.invariant (omega arith)
