-- `read_log_sheet` meets its contract.
use mathlib.Core.Path.{refl}
use Rattle.logform.specs.Inner.{ReadLogForm}
use Rattle.logsheet.specs.Outcome.{refused}
use Rattle.logsheet.proofs.Reading.{bad_form, counts_out, room_short, read_done}
use Rattle.logsheet.proofs.read_log_sheet.Goals as goal

pub returns-in_default : goal.returns-in_default
unfolding ReadLogForm
returns-in_default c = refused (bad_form _ c.in_default.ensures) refl refl

pub returns-then-not-counts_in : goal.returns-then-not-counts_in
unfolding ReadLogForm
returns-then-not-counts_in c = refused (counts_out c.in-Some.ensures _ (c.counts_in.ensures.when_false c.if-not-counts_in.true)) refl refl

pub returns-then-log-k : goal.returns-then-log-k
unfolding ReadLogForm
returns-then-log-k c = refused (room_short c.in-Some.ensures (c.counts_in.ensures.when_true c.if-not-counts_in.false) c.if-log-k.true) refl refl

pub returns : goal.returns
unfolding ReadLogForm
returns c = read_done c.in-Some.ensures (c.counts_in.ensures.when_true c.if-not-counts_in.false) _ c.number_lines.ensures c.if-log-k.false
