-- `read_fields` meets its contract.
use Rattle.std.proofs.Common.{refl}
use Rattle.lines.specs.Inner.{ReadField, ReadInto}
use Rattle.lines.proofs.Turns.{fields_more, fields_stop, fields_end}
use Rattle.lines.proofs.read_fields.Goals as goal

pub returns-in_err-x : goal.returns-in_err-x
unfolding ReadField ReadInto
returns-in_err-x g c = rw c.from_residual.ensures (fields_stop c.loop-i.invariant c.loop-i-test.true c.in_err-x.ensures)

pub loop-i-preserved : goal.loop-i-preserved
unfolding ReadField
loop-i-preserved g c = fields_more c.loop-i.invariant _ c.in_ok-x.x c.in_ok-x.next.at refl c.loop-i-test.true c.in_ok-x.ensures

pub returns : goal.returns
unfolding ReadInto
returns g c = fields_end c.loop-i.invariant c.loop-i-test.false
