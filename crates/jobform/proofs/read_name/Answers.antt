-- `read_name` meets its contract.
use Rattle.text.specs.InnerReading.{ReadNumber, Expected}
use Rattle.jobform.specs.Inner.{ReadName}
use Rattle.jobform.proofs.Parts.{number_name}
use Rattle.jobform.proofs.Reading.{untabbed_name, none_named, no_name_there}
use Rattle.jobform.proofs.read_name.Goals as goal

pub returns-in_err-start : goal.returns-in_err-start
unfolding Expected ReadName
returns-in_err-start c = rw c.from_residual.ensures (untabbed_name c.in_err-start.ensures)

pub returns-in-Some : goal.returns-in-Some
unfolding Expected ReadName
returns-in-Some c = none_named c.in_ok-start.ensures c.in-Some.ensures

pub returns-in_err-number : goal.returns-in_err-number
unfolding Expected ReadNumber ReadName
returns-in_err-number c = rw c.from_residual-in_err-number.ensures (no_name_there c.in_ok-start.ensures c.in_default.ensures c.in_err-number.ensures)

pub returns : goal.returns
unfolding Expected ReadNumber ReadName
returns c = number_name c.in_ok-start.ensures c.in_ok-number.ensures
