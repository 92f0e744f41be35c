-- `common` meets its contract.
use mathlib.Core.List.{List}
use Prim.Native.Nat.{ℕ}
use native.Mathlib.Omega.{arith}
use Rattle.surface.specs.Lists.{Distinct}
use Rattle.neighbours.specs.Around.{CornerNumbers}
use Rattle.link.proofs.Laws.{chosen_has}
use Rattle.link.proofs.Condition.{second_walked, first_walked}
use Rattle.link.proofs.common.Goals as goal

-- what is asked of the ring that is walked, whichever it is
abbrev Walked : List ℕ → Type 0
Walked l = Distinct l × CornerNumbers l

pub marked_of-requires : goal.marked_of-requires
marked_of-requires c =
    let pre = c.requires in
    let shorter = c.shorter_ring-ring.ensures in
    let marked = pre.marked.0 in
    record { distinct = chosen_has Walked shorter (pre.distinct.0, marked.corners) (pre.distinct.1, pre.marked.1); most_corners_in_bounds = marked.room }

pub returns-then-ring-first : goal.returns-then-ring-first
returns-then-ring-first c =
    let pre = c.requires in
    record { exactly = second_walked c.shorter_ring-ring.ensures c.if-ring-first.true pre.marked.0 c.marked_of.ensures; unmarked_2 = pre.unmarked }

pub mark-requires : goal.mark-requires
mark-requires c =
    let pre = c.requires in
    record { corner_numbers = pre.marked.1; unmarked = pre.unmarked }

pub marked_of-k-requires : goal.marked_of-k-requires
marked_of-k-requires c =
    let pre = c.requires in
    let shorter = c.shorter_ring-ring.ensures in
    let mark = c.mark in
    record { distinct = chosen_has Walked shorter (pre.distinct.0, pre.marked.0.corners) (pre.distinct.1, mark.ensures.corners); most_corners_in_bounds = mark.ensures.room }

pub unmark-requires : goal.unmark-requires
unmark-requires c = c.mark.ensures

pub returns : goal.returns
returns c =
    let shorter = c.shorter_ring-ring.ensures in
    let h = c.if-ring-first.false in
    let mark = c.mark in
    let counted = c.marked_of-k in
    record { exactly = first_walked shorter (omega arith) mark.ensures counted.ensures; unmarked_2 = c.unmark.ensures }
