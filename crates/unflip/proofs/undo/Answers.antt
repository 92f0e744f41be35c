-- `undo` meets its contract.
use Rattle.flip.proofs.Flipping.{stage_chains}
use Rattle.unflip.proofs.Undoing.{rule_fits, undo_stays, undo_done}
use Rattle.unflip.proofs.undo.Goals as goal

pub returns-then-not-undoable : goal.returns-then-not-undoable
returns-then-not-undoable c =
    let args = c.args in
    let pre = c.requires in
    let undoable = c.undoable in
    let if1 = c.if-not-undoable in
    record { undoes = undo_stays args.t.now args.r (undoable.ensures.when_false if1.true); in_chains = stage_chains pre.charted pre.most_corners_in_bounds }

pub put_rows-requires : goal.put_rows-requires
put_rows-requires c =
    let args = c.args in
    let pre = c.requires in
    let undoable = c.undoable in
    let if1 = c.if-not-undoable in
    let k = stage_chains pre.charted pre.most_corners_in_bounds in
    let q = rule_fits args.t.now k.whole _ k.under args.r (undoable.ensures.when_true if1.false) in
    record { in_chains = k; place_in_bounds = q.0; place_in_bounds_2 = q.1 }

pub returns : goal.returns
returns c =
    let args = c.args in
    let undoable = c.undoable in
    let if1 = c.if-not-undoable in
    let put_rows_lem = c.put_rows in
    record { undoes = undo_done args.t.now args.r _ (undoable.ensures.when_true if1.false) put_rows_lem.ensures.t_after; in_chains = put_rows_lem.ensures.in_chains_2 }
