-- `expect` meets its contract.
use Rattle.std.proofs.Common.{arith}
use Rattle.text.specs.InnerReading.{Expected}
use Rattle.text.proofs.Words.{compare_past, compare_other, compare_more, compare_end}
use Rattle.text.proofs.expect.Goals as goal

pub returns-in_err-get : goal.returns-in_err-get
unfolding Expected
returns-in_err-get c =
    let l = c.in_err-get.ensures.lookup in
    rw c.from_residual.ensures (λ r. compare_past c.args.w.now c.args.s.now c.args.from.at c.loop-b.at c.loop-b.b-index c.loop-b.invariant r c.loop-b-test.true (omega arith))

pub returns-then-branch-b : goal.returns-then-branch-b
unfolding Expected
returns-then-branch-b c =
    let l = c.in_ok-get.ensures.lookup in
    λ r. compare_other c.args.w.now c.args.s.now c.args.from.at c.loop-b.at c.loop-b.b-index c.loop-b.invariant r c.loop-b-test.true (omega arith) (λ e. c.if-branch-b.true (omega arith))

pub loop-b-preserved : goal.loop-b-preserved
loop-b-preserved c =
    let l = c.in_ok-get.ensures.lookup in
    compare_more c.args.w.now c.args.s.now c.args.from.at c.loop-b.at c.loop-b.b-index c.loop-b.invariant c.loop-b-test.true (omega arith) (omega arith)

pub returns : goal.returns
unfolding Expected
returns c = compare_end c.args.w.now c.args.s.now c.args.from.at c.loop-b.at c.loop-b.b-index c.loop-b.invariant c.loop-b-test.false
