use Rattle.writing.proofs.Writing.{Lining}
use Rattle.writing.proofs.number_lines.Given as goal

abbrev pub invariant-loop-i : goal.invariant-loop-i
invariant-loop-i g l = Lining g.F.Field.up l.fn.out l.at l.w l.ns l.width l.count l.out l.k l.i
