-- `grow` meets its contract: the record is tested, the rows from y forward to x get the removed number, and the two rows are put back.
use Rattle.surface.specs.Limits.{most_corners}
use Rattle.record.specs.Meant.{meant}
use Rattle.slots.proofs.Marks.{no_mark}
use Rattle.grow.proofs.Growing.{not_grown, walkable, earlier_inside, later_inside, grown}
use native.Mathlib.Omega.{arith}
use Rattle.grow.proofs.grow.Goals as goal

pub accepts-requires-clause-blank : goal.accepts-requires-clause-blank
accepts-requires-clause-blank c = record { blank = no_mark most_corners }

pub returns-in_default : goal.returns-in_default
returns-in_default c = not_grown c.args.corners c.args.rows (meant c.args.r) c.args.room.now c.requires.stage_table c.requires.rows_in_bounds c.in_default.ensures.answered

pub rename-requires : goal.rename-requires
rename-requires c =
    walkable c.args.corners c.args.rows (meant c.args.r) c.args.room.now c.requires.stage_table c.requires.rows_in_bounds c.in-Some.x c.in-Some.y c.in-Some.ensures.answered c.accepts.new.at
    (let h = c.requires.stage_table.stage.many in omega arith) c.in-Some.ensures.round

pub put_rows-requires-clause-place_le_rows : goal.put_rows-requires-clause-place_le_rows
put_rows-requires-clause-place_le_rows c =
    earlier_inside c.args.corners c.args.rows (meant c.args.r) c.args.room.now c.requires.stage_table c.requires.rows_in_bounds c.in-Some.x c.in-Some.y c.in-Some.ensures.answered

pub put_rows-requires-clause-place_bound : goal.put_rows-requires-clause-place_bound
put_rows-requires-clause-place_bound c =
    later_inside c.args.corners c.args.rows (meant c.args.r) c.args.room.now c.requires.stage_table c.requires.rows_in_bounds c.in-Some.x c.in-Some.y c.in-Some.ensures.answered

pub returns : goal.returns
returns c =
    grown c.args.corners c.args.rows (meant c.args.r) c.args.room.now c.requires.stage_table c.requires.rows_in_bounds c.in-Some.x c.in-Some.y c.in-Some.ensures.answered
    c.rename.new.t c.rename.auto.t c.rename.ensures c.put_rows.new.room c.put_rows.ensures
