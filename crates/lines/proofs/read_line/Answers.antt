-- `read_line` meets its contract.
use Rattle.text.specs.InnerReading.{Expected}
use Rattle.lines.specs.Inner.{ReadInto}
use Rattle.lines.proofs.Turns.{no_word, no_fields, line_end}
use Rattle.lines.proofs.read_line.Goals as goal

pub returns-in_err-after : goal.returns-in_err-after
unfolding Expected ReadInto
returns-in_err-after g c = rw c.from_residual.ensures (no_word g.F.Field.up c.args.w.now c.in_err-after.ensures)

pub returns-in_err-end : goal.returns-in_err-end
unfolding Expected ReadInto
returns-in_err-end g c = rw c.from_residual-in_err-end.ensures (no_fields g.F.Field.up c.args.w.now c.in_ok-after.ensures c.in_err-end.ensures)

pub returns : goal.returns
unfolding Expected ReadInto
returns g c = line_end g.F.Field.up c.args.w.now c.in_ok-after.ensures c.args.s.now c.in_ok-end.end.at c.in_ok-end.ensures c.expect-2.result c.expect-2.ensures
