use Rattle.reading.proofs.Lining.{Lined}
use Rattle.reading.proofs.number_lines.Given as goal

abbrev pub invariant-loop-i : goal.invariant-loop-i
invariant-loop-i g l = Lined g.F.Field.up l.most l.width l.count l.s l.fn.from.at l.w l.fn.room l.room l.at.at l.i
