-- An empty part is the one from 0 to 0; any other is the rest of the longer log.
use Rattle.bridge.proofs.Lent.{part_nothing, part_second, part_first}
use Rattle.bridge.proofs.part_of.Goals as goal

pub returns-then-part-eq0 : goal.returns-then-part-eq0
returns-then-part-eq0 c = part_nothing c.catch_up-part.ensures c.if-part-eq0.true

pub returns-then-first-second : goal.returns-then-first-second
returns-then-first-second c = part_second c.catch_up-part.ensures c.if-part-eq0.false c.if-first-second.true

pub returns : goal.returns
returns c = part_first c.catch_up-part.ensures c.if-part-eq0.false c.if-first-second.false
