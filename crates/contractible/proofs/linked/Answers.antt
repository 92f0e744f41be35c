-- `linked` meets its contract.
use Rattle.neighbours.proofs.Marking.{neighbours_corners}
use Rattle.contractible.proofs.linked.Goals as goal

pub mark-requires-clause-corner_numbers : goal.mark-requires-clause-corner_numbers
mark-requires-clause-corner_numbers c = neighbours_corners c.args.t.now c.requires.charted.0.table c.gather-k.ensures.lists
