-- `shift` meets its contract.
use Rattle.shift.proofs.Reporting.{asked_has, stand_in_has, shift_done}
use borrow.Author.Rules.{rules}
use Rattle.shift.proofs.shift.Goals as goal

pub squared_distance-squared-requires : goal.squared_distance-squared-requires
squared_distance-squared-requires c =
    let clear = c.check.ensures.clear c.in_ok-check.was in
    let here = asked_has clear in
    let there = stand_in_has clear c.follow-f.ensures.0 in
    search rules

pub returns : goal.returns
returns c = shift_done c.check.ensures c.in_ok-check.was c.follow-f.ensures.0 c.follow-f.ensures.1 c.squared_distance-squared.ensures
