-- `least_at` meets its contract.
use Rattle.neighbours.proofs.Marking.{neighbours_corners}
use Rattle.least.proofs.least_at.Goals as goal

pub mark-requires-clause-corner_numbers : goal.mark-requires-clause-corner_numbers
mark-requires-clause-corner_numbers c = neighbours_corners c.args.t.now c.requires.searchable_at.searchable.table c.requires.neighbours
