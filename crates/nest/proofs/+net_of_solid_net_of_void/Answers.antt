-- `net_of_void` and `net_of_solid` meet their contracts, in one proof, since each calls the other: the depth left falls. The two halves are one text.
use Rattle.std.proofs.Common.{rules, ℕ, List, sym, ◌∙◌, w64, to_z, of_z, SFits}
use Rattle.std.proofs.lemmas.Int.{to_z-of_z}
use Rattle.jobform.specs.declared.Entry.{Entry}
use Rattle.wide.specs.declared.Wide.{Wide}
use Rattle.wide.specs.Wide.{Exact}
use Rattle.nest.specs.Net.{told_sum}
use Rattle.nest.proofs.Entries.{read, sum_read, named_read}
use Rattle.nest.proofs.Sizes.{own_fits}
use Rattle.nest.proofs.Adding.{Inside, added_none, added_stays, added_more, inside_none, inside_all, added_fits, next_fits, inside_fits, whole_net}
use Rattle.nest.proofs.+net_of_solid_net_of_void.Goals as goal
use Rattle.nest.proofs.+net_of_solid_net_of_void.Goals.{net_of_solid-After-enter, net_of_void-After-enter, net_of_solid-then-eq, net_of_solid-else-eq, net_of_solid-then-left-gt0+else-loop-k-test, net_of_solid-else-left-gt0, net_of_void-then-eq, net_of_void-else-eq, net_of_void-then-left-gt0+else-loop-k-test, net_of_void-else-left-gt0}

-- an own sum enters as it stands
own_sum : (es : List Entry) (i : ℕ) {w : Wide} → SFits w64 (read es i).sum → Exact (to_z w64 (of_z w64 (read es i).sum)) w → Exact (told_sum es i) w
own_sum es i fits e = rw (sum_read es i, ← to_z-of_z w64 (read es i).sum fits) e

-- ---- the net of a solid

pub net_of_solid-loop-k-init : goal.net_of_solid-loop-k-init
net_of_solid-loop-k-init t c = added_none c.args.entries.now c.args.i c.args.left c.enter-voids.ensures

pub net_of_solid-add-voids-requires : goal.net_of_solid-add-voids-requires
net_of_solid-add-voids-requires t c =
    let s = c.args in (
      added_fits s.entries.now s.i s.left c.requires.0 c.requires.2 c.loop-k.k c.loop-k.auto.k-end c.loop-k.invariant,
      next_fits s.entries.now s.i s.left c.requires.0 c.requires.2 c.loop-k.k c.loop-k-test.true c.net_of_void.ensures,
    )

pub net_of_solid-loop-k-preserved : goal.net_of_solid-loop-k-preserved
net_of_solid-loop-k-preserved t c =
    let s = c.args in
    let test = named_read s.entries.now s.i c.loop-k.k ∙ sym c.eq.ensures in
    elim c.if-eq.branch [
      | net_of_solid-then-eq w ↦ rw w.voids-is (added_more s.entries.now s.i s.left c.loop-k.k w.net_of_void.result (test ∙ w.if-eq.true) c.loop-k.invariant w.net_of_void.ensures w.add-voids.ensures)
      | net_of_solid-else-eq w ↦ rw w.voids-is (added_stays s.entries.now s.i s.left c.loop-k.k (test ∙ w.if-eq.false) c.loop-k.invariant)
    ]

-- what is inside, by either way to where it is taken off
net_of_solid-inside : (t : ℕ) (c : net_of_solid-After-enter t) → Inside c.args.entries.now c.args.i c.args.left c.if-left-gt0.voids
net_of_solid-inside t c =
    let s = c.args in
    elim c.if-left-gt0.branch [
      | net_of_solid-then-left-gt0+else-loop-k-test w ↦ rw w.voids-is (inside_all s.entries.now s.i s.left w.loop-k.k w.if-left-gt0.true w.loop-k.auto.k-end w.loop-k-test.false w.loop-k.invariant)
      | net_of_solid-else-left-gt0 w ↦ rw w.voids-is (inside_none s.entries.now s.i s.left w.if-left-gt0.false c.enter-voids.ensures)
    ]

pub net_of_solid-less-requires : goal.net_of_solid-less-requires
net_of_solid-less-requires t c =
    let s = c.args in
    let fits : SFits w64 (read s.entries.now s.i).sum = search rules in (
      own_fits c.requires.0 s.i (own_sum s.entries.now s.i fits c.enter.ensures),
      inside_fits s.entries.now s.i s.left c.requires.0 c.requires.2 (net_of_solid-inside t c),
    )

pub net_of_solid-returns : goal.net_of_solid-returns
net_of_solid-returns t c =
    let s = c.args in
    let w = c.if-left-gt0.voids in
    let fits : SFits w64 (read s.entries.now s.i).sum = search rules in
    whole_net s.entries.now s.i s.left c.enter.result w (own_sum s.entries.now s.i fits c.enter.ensures) (net_of_solid-inside t (goal.at.net_of_solid-returns t c).After-enter) c.less.ensures

-- ---- the net of a void

pub net_of_void-loop-k-init : goal.net_of_void-loop-k-init
net_of_void-loop-k-init t c = added_none c.args.entries.now c.args.i c.args.left c.enter-solids.ensures

pub net_of_void-add-solids-requires : goal.net_of_void-add-solids-requires
net_of_void-add-solids-requires t c =
    let s = c.args in (
      added_fits s.entries.now s.i s.left c.requires.0 c.requires.2 c.loop-k.k c.loop-k.auto.k-end c.loop-k.invariant,
      next_fits s.entries.now s.i s.left c.requires.0 c.requires.2 c.loop-k.k c.loop-k-test.true c.net_of_solid.ensures,
    )

pub net_of_void-loop-k-preserved : goal.net_of_void-loop-k-preserved
net_of_void-loop-k-preserved t c =
    let s = c.args in
    let test = named_read s.entries.now s.i c.loop-k.k ∙ sym c.eq.ensures in
    elim c.if-eq.branch [
      | net_of_void-then-eq w ↦ rw w.solids-is (added_more s.entries.now s.i s.left c.loop-k.k w.net_of_solid.result (test ∙ w.if-eq.true) c.loop-k.invariant w.net_of_solid.ensures w.add-solids.ensures)
      | net_of_void-else-eq w ↦ rw w.solids-is (added_stays s.entries.now s.i s.left c.loop-k.k (test ∙ w.if-eq.false) c.loop-k.invariant)
    ]

-- what is inside, by either way to where it is taken off
net_of_void-inside : (t : ℕ) (c : net_of_void-After-enter t) → Inside c.args.entries.now c.args.i c.args.left c.if-left-gt0.solids
net_of_void-inside t c =
    let s = c.args in
    elim c.if-left-gt0.branch [
      | net_of_void-then-left-gt0+else-loop-k-test w ↦ rw w.solids-is (inside_all s.entries.now s.i s.left w.loop-k.k w.if-left-gt0.true w.loop-k.auto.k-end w.loop-k-test.false w.loop-k.invariant)
      | net_of_void-else-left-gt0 w ↦ rw w.solids-is (inside_none s.entries.now s.i s.left w.if-left-gt0.false c.enter-solids.ensures)
    ]

pub net_of_void-less-requires : goal.net_of_void-less-requires
net_of_void-less-requires t c =
    let s = c.args in
    let fits : SFits w64 (read s.entries.now s.i).sum = search rules in (
      own_fits c.requires.0 s.i (own_sum s.entries.now s.i fits c.enter.ensures),
      inside_fits s.entries.now s.i s.left c.requires.0 c.requires.2 (net_of_void-inside t c),
    )

pub net_of_void-returns : goal.net_of_void-returns
net_of_void-returns t c =
    let s = c.args in
    let w = c.if-left-gt0.solids in
    let fits : SFits w64 (read s.entries.now s.i).sum = search rules in
    whole_net s.entries.now s.i s.left c.enter.result w (own_sum s.entries.now s.i fits c.enter.ensures) (net_of_void-inside t (goal.at.net_of_void-returns t c).After-enter) c.less.ensures
