-- `next_record` meets its contract.
use mathlib.Core.Path.{refl}
use Rattle.lines.specs.Inner.{ReadInto}
use Rattle.logrecords.specs.Outcome.{ended}
use Rattle.logrecords.proofs.Standing.{no_record, record_found}
use Rattle.logrecords.proofs.next_record.Goals as goal

pub returns-then-bytes-from : goal.returns-then-bytes-from
returns-then-bytes-from c = ended c.if-bytes-from.true refl

pub returns-in_default : goal.returns-in_default
unfolding ReadInto
returns-in_default c = no_record c.if-bytes-from.false c.in_default.ensures

pub returns : goal.returns
unfolding ReadInto
returns c = record_found c.args.bytes.now c.args.from.at _ c.in-Some.ensures c.min-after.ensures c.if-bytes-from.false c.read_record.ensures
