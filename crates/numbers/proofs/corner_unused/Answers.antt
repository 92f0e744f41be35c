-- `corner_unused` meets its contract.
use Rattle.std.proofs.Common.{arith}
use Rattle.refusal.proofs.Tells.{tells_match}
use Rattle.slots.proofs.Chain.{no_last_unused, last_used}
use Rattle.slots.proofs.Marks.{none_among}
use Rattle.numbers.proofs.corner_unused.Goals as goal

pub returns : goal.returns
returns c =
    let t = c.args.t.now in
    let pre = c.requires in
    tells_match _ (none_among c.args.n c.args.last.now _ pre.n_in_bounds c.contains.ensures.cases)
    (λ h. record { v = h.0; below = h.1; unused = no_last_unused t pre.whole.threes h.0 (rw h.2 at (pre.lasts.lasts h.0 (omega (arith, h.1)))) })
    (λ h v small. last_used t pre.whole.threes v _ (pre.lasts.lasts v (omega arith)) (h v small))
