-- `records_on` meets its contract.
use Rattle.logform.specs.Inner.{WhatIsLeft}
use Rattle.logform.proofs.Passing.{passing_start, few_lines, nearer, passing_next, other_stands, all_passed}
use Rattle.logreader.proofs.Asking.{found_line, no_line, later_tag}
use borrow.Author.Rules.{rules}
use Rattle.logreader.proofs.records_on.Goals as goal

pub loop-k-init : goal.loop-k-init
loop-k-init c = passing_start c.args.bytes.now c.args.from.at

pub returns-in_default : goal.returns-in_default
unfolding WhatIsLeft
returns-in_default c =
    let loop = c.loop-k in
    let loop-test = c.loop-k-test in
    other_stands loop.invariant loop-test.true (no_line c.ask-answered.ensures.answer (later_tag _ c.in_default.not-Found))

pub overflow_add-count : goal.overflow_add-count
overflow_add-count c =
    let loop = c.loop-k in
    let h = few_lines loop.invariant in search rules

pub loop-k-smaller : goal.loop-k-smaller
loop-k-smaller c =
    let loop = c.loop-k in
    let ask = c.ask-answered in
    let here = c.in-Found in
    nearer loop.invariant ask.result.at (found_line here.field-0 here.field-1 ask.ensures here.is).passed

pub loop-k-preserved : goal.loop-k-preserved
loop-k-preserved c =
    let loop = c.loop-k in
    let ask = c.ask-answered in
    let here = c.in-Found in
    passing_next loop.invariant ask.result.at (found_line here.field-0 here.field-1 ask.ensures here.is).passed

pub returns : goal.returns
unfolding WhatIsLeft
returns c = all_passed c.loop-k.invariant c.loop-k-test.false
