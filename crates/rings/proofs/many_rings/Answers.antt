-- `many_rings` meets its contract.
use lib.ListN.{length}
use Rattle.slots.specs.Slot.{most_slots}
use Rattle.slots.proofs.Marks.{no_mark, none_among}
use Rattle.refusal.proofs.Tells.{tells_match}
use Rattle.rings.proofs.Walking.{many_at, one_all}
use native.Mathlib.Omega.{arith}
use Rattle.rings.proofs.many_rings.Goals as goal

pub walk_all-requires : goal.walk_all-requires
walk_all-requires c =
    let pre = c.requires in
    record { can_walk = pre.can_walk; blank = record { blank = λ k. no_mark most_slots k }; t_in_bounds = omega (arith, pre.can_walk.whole.most); n_in_bounds = pre.n_in_bounds }

pub returns : goal.returns
returns c =
    let t = c.args.t.now in
    let pre = c.requires in
    let w = c.walk_all.ensures in
    tells_match _ (none_among (length t) _ _ (omega (arith, w.marks.room)) c.contains.ensures.cases)
    (λ h. many_at t c.args.last.now c.args.reverse.now pre.can_walk c.args.n _ pre.n_in_bounds w pre.closed h.0 h.1 h.2)
    (one_all t c.args.last.now c.args.reverse.now pre.can_walk c.args.n _ pre.n_in_bounds w pre.closed)
