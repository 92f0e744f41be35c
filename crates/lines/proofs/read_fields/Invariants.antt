use Rattle.lines.proofs.Turns.{Fielded}
use Rattle.lines.proofs.read_fields.Given as goal

abbrev pub invariant-loop-i : goal.invariant-loop-i
invariant-loop-i g l = Fielded g.F.Field.up l.most l.count l.s l.fn.from.at l.fn.room l.start l.room l.at.at l.i
