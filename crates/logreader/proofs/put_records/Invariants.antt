use lib.IntN.{pos}
use Rattle.record.specs.Layout.{width}
use Rattle.lines.specs.Kinds.{K}
use Rattle.reading.proofs.Lining.{Lined}
use Rattle.heading.specs.Heading.{most_digits}
use Rattle.logreader.proofs.put_records.Given as goal

abbrev pub invariant-loop-i : goal.invariant-loop-i
invariant-loop-i l = Lined pos most_digits width l.count l.bytes l.fn.from.at K l.fn.log l.log l.k l.i
