use Rattle.std.proofs.Common.{◌≡◌, ◌+◌, ◌*◌, ◌≤◌, length, drop, map}
use Rattle.lines.specs.Lines.{fields}
use Rattle.writing.proofs.fields_length.Given as goal

abbrev pub invariant-loop-z : goal.invariant-loop-z
invariant-loop-z g l = (l.n + length (fields (map g.F.Field.up (drop l.z-index l.zs))) ≡ length (fields (map g.F.Field.up l.zs))) × (l.n ≤ 21 * l.z-index)
