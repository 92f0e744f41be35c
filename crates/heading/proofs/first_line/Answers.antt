-- `first_line` meets its contract.
use Rattle.lines.specs.Inner.{ReadInto}
use Rattle.heading.specs.Inner.{ReadFirst}
use Rattle.heading.proofs.First.{both_counts, counts_fit_lem, no_counts}
use Rattle.heading.proofs.first_line.Goals as goal

pub returns-in_err-after : goal.returns-in_err-after
unfolding ReadFirst ReadInto
returns-in_err-after c = rw c.from_residual.ensures (no_counts c.in_err-after.ensures)

pub overflow_cast-result : goal.overflow_cast-result
unfolding ReadInto
overflow_cast-result c = (counts_fit_lem (both_counts c.in_ok-after.ensures)).0

pub overflow_cast-result-2 : goal.overflow_cast-result-2
unfolding ReadInto
overflow_cast-result-2 c = (counts_fit_lem (both_counts c.in_ok-after.ensures)).1

pub returns : goal.returns
unfolding ReadFirst ReadInto
returns c = both_counts c.in_ok-after.ensures
