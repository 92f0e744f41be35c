-- No mark is set in what is made.
use Rattle.neighbours.proofs.Marking.{unmarked_new}
use Rattle.neighbours.proofs.Scratch.new.Goals as goal

pub invariant_of-result : goal.invariant_of-result
invariant_of-result c = record { near_unmarked = unmarked_new; far_unmarked = unmarked_new }
