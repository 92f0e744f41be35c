-- A plain number after its tab.
use Rattle.std.proofs.Common.{pos, arith}
use Rattle.text.specs.InnerReading.{Expected, ReadNumber}
use Rattle.text.proofs.Digits.{digits_below}
use Rattle.lines.specs.Inner.{ReadField}
use Rattle.lines.specs.InnerLimits.{most_plain}
use Rattle.lines.proofs.Turns.{field_none, plain_field, no_plain}
use Rattle.lines.proofs.U32Field.read.Goals as goal

pub returns-in_err-after : goal.returns-in_err-after
unfolding Expected
returns-in_err-after c = rw c.from_residual.ensures (field_none pos c.args.most c.args.s.now c.args.from.at c.in_err-after.ensures)

pub returns-in_err-v : goal.returns-in_err-v
unfolding Expected ReadNumber ReadField
returns-in_err-v c = rw c.from_residual-in_err-v.ensures (no_plain c.in_ok-after.ensures c.in_err-v.ensures)

pub overflow_cast-result : goal.overflow_cast-result
unfolding ReadNumber
overflow_cast-result c = let f = c.requires.1 in let h = c.in_ok-v.ensures.short in record { fits = omega (arith, digits_below c.in_ok-v.v most_plain (omega arith)) }

pub returns : goal.returns
unfolding Expected ReadNumber ReadField
returns c = plain_field c.in_ok-after.ensures c.in_ok-v.ensures
