use Rattle.std.proofs.Common.{drop, map}
use Rattle.lines.specs.Lines.{fields}
use Rattle.writing.proofs.Writing.{Onward}
use Rattle.writing.proofs.write_fields.Given as goal

abbrev pub invariant-loop-z : goal.invariant-loop-z
invariant-loop-z g l = Onward l.fn.out l.at (fields (map g.F.Field.up l.zs)) l.out l.k (fields (map g.F.Field.up (drop l.z-index l.zs)))
