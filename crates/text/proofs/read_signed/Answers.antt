-- `read_signed` meets its contract.
use Rattle.text.specs.InnerReading.{ReadNumber, ReadSigned, Expected}
use Rattle.text.proofs.Signs.{fits_above, fits_below, read_above, read_below, small_enough, signed_below, signed_above, minus_zero, minus_none, none_above}
use Rattle.text.proofs.read_signed.Goals as goal

pub returns-in_err-v : goal.returns-in_err-v
unfolding ReadNumber ReadSigned Expected
returns-in_err-v c = rw c.from_residual.ensures (none_above c.args.most c.args.s.now c.args.from.at c.in_default.ensures c.in_err-v.ensures)

pub overflow_cast-result : goal.overflow_cast-result
unfolding ReadNumber
overflow_cast-result c = fits_above _ (small_enough c.requires.1 c.in_ok-v.ensures)

pub returns-in_default : goal.returns-in_default
unfolding ReadNumber ReadSigned
returns-in_default c = rw (read_above c.in_ok-v.v (small_enough c.requires.1 c.in_ok-v.ensures)) (signed_above c.args.most c.args.s.now c.args.from.at c.in_ok-v.ensures)

pub returns-in_err-size : goal.returns-in_err-size
unfolding ReadNumber ReadSigned Expected
returns-in_err-size c = rw c.from_residual-in_err-size.ensures (minus_none c.args.most c.args.s.now c.args.from.at c.in-Some.after.at c.in-Some.ensures c.in_err-size.ensures)

pub returns-then-size-eq0 : goal.returns-then-size-eq0
unfolding ReadNumber ReadSigned Expected
returns-then-size-eq0 c = minus_zero c.args.most c.args.s.now c.args.from.at c.in-Some.after.at c.in-Some.ensures (rw c.if-size-eq0.true at c.in_ok-size.ensures)

pub overflow_cast-result-2 : goal.overflow_cast-result-2
unfolding ReadNumber
overflow_cast-result-2 c = fits_above _ (small_enough c.requires.1 c.in_ok-size.ensures)

pub overflow_sub-result : goal.overflow_sub-result
unfolding ReadNumber
overflow_sub-result c = fits_below _ (small_enough c.requires.1 c.in_ok-size.ensures)

pub returns : goal.returns
unfolding ReadNumber ReadSigned Expected
returns c = rw (read_below c.in_ok-size.size (small_enough c.requires.1 c.in_ok-size.ensures)) (signed_below c.args.most c.args.s.now c.args.from.at c.in-Some.after.at c.in_ok-size.size c.in-Some.ensures c.in_ok-size.ensures c.if-size-eq0.false)
