-- `lines_left` meets its contract.
use Rattle.logform.specs.Inner.{PassedOver, WhatIsLeft}
use Rattle.logform.proofs.Passing.{passing_start, few_lines, nearer, passing_next, other_stands, all_passed}
use borrow.Author.Rules.{rules}
use Rattle.logform.proofs.lines_left.Goals as goal

pub loop-here-init : goal.loop-here-init
loop-here-init c = passing_start c.args.s.now c.args.from.at

pub returns-in_err-here : goal.returns-in_err-here
unfolding PassedOver WhatIsLeft
returns-in_err-here c = rw c.from_residual.ensures (other_stands c.loop-here.invariant c.loop-here-test.true c.in_err-here.ensures)

pub overflow_add-count : goal.overflow_add-count
overflow_add-count c = let h = few_lines c.loop-here.invariant in search rules

pub loop-here-smaller : goal.loop-here-smaller
unfolding PassedOver
loop-here-smaller c = nearer c.loop-here.invariant c.in_ok-here.here.at c.in_ok-here.ensures

pub loop-here-preserved : goal.loop-here-preserved
unfolding PassedOver
loop-here-preserved c = passing_next c.loop-here.invariant c.in_ok-here.here.at c.in_ok-here.ensures

pub returns : goal.returns
unfolding WhatIsLeft
returns c = all_passed c.loop-here.invariant c.loop-here-test.false
