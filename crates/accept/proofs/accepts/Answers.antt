-- `accepts` meets its contract: each part of the local rule is tested, in turn.
use Rattle.record.specs.Meant.{meant}
use Rattle.slots.proofs.Slots.{under_more}
use Rattle.slots.proofs.Staged.{table_under}
use Rattle.accept.proofs.Rule.{out_of_bounds, removed_used, no_such_rows, not_two_near, all_holds}
use native.Mathlib.Omega.{arith}
use Rattle.accept.proofs.accepts.Goals as goal

pub note_round-requires-clause-under : goal.note_round-requires-clause-under
note_round-requires-clause-under c = under_more (table_under c.requires.stage_table) c.requires.corners_in_bounds

pub returns-then-not-in_bounds-clause-answered : goal.returns-then-not-in_bounds-clause-answered
returns-then-not-in_bounds-clause-answered c =
    out_of_bounds c.args.corners c.args.t.now (meant c.args.r) c.requires.stage_table (c.in_bounds.ensures.when_false c.if-not-in_bounds.true)

pub returns-then-uses-clause-answered : goal.returns-then-uses-clause-answered
returns-then-uses-clause-answered c =
    removed_used c.args.corners c.args.t.now (meant c.args.r) c.requires.stage_table (c.uses.ensures.when_true c.if-uses.true)

pub returns-in_err-x-clause-answered : goal.returns-in_err-x-clause-answered
returns-in_err-x-clause-answered c =
    rw c.from_residual.ensures (no_such_rows c.args.corners c.args.t.now (meant c.args.r) c.requires.stage_table c.in_err-x.ensures)

pub returns-then-not-two_near-clause-answered : goal.returns-then-not-two_near-clause-answered
returns-then-not-two_near-clause-answered c =
    not_two_near c.args.corners c.args.t.now (meant c.args.r) c.requires.stage_table c.in_ok-x.x c.in_ok-x.y c.in_ok-x.ensures c.note_round.new.at (omega arith) c.note_round.ensures (c.two_near.ensures.when_false c.if-not-two_near.true)

pub returns-clause-answered : goal.returns-clause-answered
returns-clause-answered c =
    all_holds c.args.corners c.args.t.now (meant c.args.r) c.requires.stage_table c.in_ok-x.x c.in_ok-x.y c.in_ok-x.ensures c.note_round.new.at (omega arith) c.note_round.ensures
    (c.in_bounds.ensures.when_true c.if-not-in_bounds.false) (c.uses.ensures.when_false c.if-uses.false) (c.two_near.ensures.when_true c.if-not-two_near.false)
