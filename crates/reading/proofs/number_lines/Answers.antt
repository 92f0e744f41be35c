-- `number_lines` meets its contract.
use Rattle.lines.specs.Inner.{ReadInto}
use Rattle.reading.proofs.Lining.{line_room, lines_next, lines_stop, lines_end}
use Rattle.reading.proofs.number_lines.Goals as goal

pub read_line-requires : goal.read_line-requires
read_line-requires g c = (c.requires.0, c.requires.1, line_room c.loop-i.invariant c.requires.2 c.loop-i-test.true)

pub returns-in_err-at : goal.returns-in_err-at
unfolding ReadInto
returns-in_err-at g c = rw c.from_residual.ensures (lines_stop c.loop-i.invariant c.loop-i-test.true c.in_err-at.ensures)

pub loop-i-preserved : goal.loop-i-preserved
unfolding ReadInto
loop-i-preserved g c = lines_next c.loop-i.invariant _ c.in_ok-at.at.at c.loop-i-test.true c.in_ok-at.ensures

pub returns : goal.returns
unfolding ReadInto
returns g c = lines_end c.loop-i.invariant c.loop-i-test.false
