-- `read_number` meets its contract.
use Rattle.std.proofs.Common.{arith}
use Rattle.text.specs.InnerReading.{ReadNumber}
use Rattle.text.proofs.Scan.{none_there, scan_start, scan_end, scan_needless, scan_many, scan_fits, scan_more}
use Rattle.text.proofs.read_number.Goals as goal

pub returns-in_err-v : goal.returns-in_err-v
unfolding ReadNumber
returns-in_err-v c = rw c.from_residual.ensures (λ v r. none_there c.in_err-v.ensures)

pub loop-d-init : goal.loop-d-init
loop-d-init c = scan_start c.args.most c.args.s.now c.args.from.at c.in_ok-v.v c.requires.0 c.in_ok-v.ensures

pub returns-then-v-eq0 : goal.returns-then-v-eq0
unfolding ReadNumber
returns-then-v-eq0 c = λ w r. scan_needless c.args.most c.args.s.now c.args.from.at c.loop-d.v c.loop-d.i c.loop-d.invariant c.in-Some.d c.in-Some.ensures c.if-v-eq0.true

pub returns-then-most-i : goal.returns-then-most-i
unfolding ReadNumber
returns-then-most-i c = λ w r. scan_many c.args.most c.args.s.now c.args.from.at c.loop-d.v c.loop-d.i c.loop-d.invariant c.in-Some.d c.in-Some.ensures c.if-most-i.true

pub overflow_mul-v : goal.overflow_mul-v
overflow_mul-v c = let f = scan_fits c.args.most c.args.s.now c.args.from.at c.loop-d.v c.loop-d.i c.loop-d.invariant c.in-Some.d c.in-Some.ensures c.requires.1 c.if-most-i.false in omega arith

pub overflow_add-v : goal.overflow_add-v
overflow_add-v c = let f = scan_fits c.args.most c.args.s.now c.args.from.at c.loop-d.v c.loop-d.i c.loop-d.invariant c.in-Some.d c.in-Some.ensures c.requires.1 c.if-most-i.false in omega arith

pub loop-d-preserved : goal.loop-d-preserved
loop-d-preserved c = scan_more c.args.most c.args.s.now c.args.from.at c.loop-d.v c.loop-d.i c.loop-d.invariant c.in-Some.d c.in-Some.ensures c.if-v-eq0.false c.if-most-i.false

pub returns : goal.returns
unfolding ReadNumber
returns c = scan_end c.args.most c.args.s.now c.args.from.at c.loop-d.v c.loop-d.i c.loop-d.invariant c.in_default.ensures
