-- `read_field` meets its contract.
use Rattle.text.specs.InnerReading.{Expected}
use Rattle.lines.proofs.Turns.{field_read, field_none}
use Rattle.lines.proofs.read_field.Goals as goal

pub returns-in_err-expect : goal.returns-in_err-expect
unfolding Expected
returns-in_err-expect c = rw c.from_residual.ensures (field_none (λ z. z) c.args.most c.args.s.now c.args.from.at c.in_err-expect.ensures)

pub returns : goal.returns
unfolding Expected
returns c = field_read c.args.most c.args.s.now c.args.from.at c.in_ok-expect.field-0.at c.in_ok-expect.ensures c.read_signed.result c.read_signed.ensures
