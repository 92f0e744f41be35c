-- `put_records` meets its contract.
use Rattle.lines.specs.Inner.{ReadInto}
use Rattle.lines.proofs.Turns.{put_length}
use Rattle.reading.proofs.Lining.{line_room, lines_next, lines_stop, lines_end}
use Rattle.logreader.proofs.Asking.{found_line, numbers_put, no_line, later_tag}
use Rattle.logreader.proofs.put_records.Goals as goal

pub shape_of-log-in_default : goal.shape_of-log-in_default
shape_of-log-in_default c = put_length c.loop-i.invariant.put

pub returns-in_default : goal.returns-in_default
unfolding ReadInto
returns-in_default c = lines_stop c.loop-i.invariant c.loop-i-test.true (no_line c.ask-answered.ensures.answer (later_tag _ c.in_default.not-Found))

pub write_record-requires : goal.write_record-requires
write_record-requires c = line_room c.loop-i.invariant c.requires c.loop-i-test.true

pub loop-i-preserved : goal.loop-i-preserved
unfolding ReadInto
loop-i-preserved c =
    let here = c.in-Found in
    lines_next c.loop-i.invariant _ c.ask-answered.result.at c.loop-i-test.true (numbers_put _ _ _ (found_line here.r here.field-1 c.ask-answered.ensures here.is) c.write_record.ensures)

pub shape_of-log : goal.shape_of-log
shape_of-log c = put_length c.loop-i.invariant.put

pub returns : goal.returns
unfolding ReadInto
returns c = lines_end c.loop-i.invariant c.loop-i-test.false
