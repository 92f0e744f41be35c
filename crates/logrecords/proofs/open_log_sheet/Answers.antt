-- `open_log_sheet` meets its contract.
use mathlib.Core.Path.{refl}
use Rattle.heading.specs.Inner.{ReadFirst}
use Rattle.logrecords.specs.Outcome.{unopened}
use Rattle.logrecords.proofs.Opening.{too_long, no_first, counts_out, opened_at}
use Rattle.logrecords.proofs.open_log_sheet.Goals as goal

pub returns-then-bytes-gt-MOST_LOG_BYTES : goal.returns-then-bytes-gt-MOST_LOG_BYTES
returns-then-bytes-gt-MOST_LOG_BYTES c = unopened (too_long c.args.bytes.now c.if-bytes-gt-MOST_LOG_BYTES.true) refl

pub returns-in_default : goal.returns-in_default
unfolding ReadFirst
returns-in_default c = unopened (no_first c.if-bytes-gt-MOST_LOG_BYTES.false c.in_default.ensures) refl

pub returns-then-not-counts_in : goal.returns-then-not-counts_in
unfolding ReadFirst
returns-then-not-counts_in c = unopened (counts_out c.if-bytes-gt-MOST_LOG_BYTES.false c.in-Some.ensures (c.counts_in.ensures.when_false c.if-not-counts_in.true)) refl

pub returns : goal.returns
unfolding ReadFirst
returns c = opened_at c.if-bytes-gt-MOST_LOG_BYTES.false c.in-Some.ensures (c.counts_in.ensures.when_true c.if-not-counts_in.false) _ refl c.min-after.ensures
