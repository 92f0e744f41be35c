-- `undoable` meets its contract.
use Rattle.refusal.proofs.Tells.{tells_false}
use Rattle.slots.proofs.Slots.{whole_rows}
use Rattle.flip.proofs.Flipping.{stage_chains}
use Rattle.unflip.proofs.Undoing.{past_first, past_second, rule_wrote, rule_tells}
use native.Mathlib.Omega.{arith}
use Rattle.unflip.proofs.undoable.Goals.{then-t-p-via-then-t-p, then-t-p-via-else-t-p+then-t-q}
use Rattle.unflip.proofs.undoable.Goals as goal

pub returns-then-t-p : goal.returns-then-t-p
returns-then-t-p c =
    let m = whole_rows c.args.t.now (stage_chains c.requires.charted c.requires.most_corners_in_bounds).whole.threes in
    elim c.then-t-p.branch [
      | then-t-p-via-then-t-p w ↦ tells_false (past_first c.args.t.now c.args.r (omega arith))
      | then-t-p-via-else-t-p+then-t-q w ↦ tells_false (past_second c.args.t.now c.args.r (omega arith))
    ]

pub returns-then-not-wrote : goal.returns-then-not-wrote
returns-then-not-wrote c =
    tells_false (λ u. c.wrote.ensures.when_false c.if-not-wrote.true (rule_wrote c.args.t.now c.args.r c.row_at-upper.ensures c.row_at-lower.ensures u))

pub slot_of-requires : goal.slot_of-requires
slot_of-requires c = stage_chains c.requires.charted c.requires.most_corners_in_bounds

pub returns : goal.returns
returns c =
    let three = (stage_chains c.requires.charted c.requires.most_corners_in_bounds).whole.threes in
    rule_tells c.args.t.now c.args.r c.row_at-upper.ensures c.row_at-lower.ensures three (c.wrote.ensures.when_true c.if-not-wrote.false) _ c.slot_of.ensures _ c.is_none.ensures
