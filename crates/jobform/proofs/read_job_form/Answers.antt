-- `read_job_form` meets its contract.
use Rattle.lines.specs.Inner.{ReadInto}
use Rattle.jobform.specs.Inner.{ReadEntries, ReadJob, too_long}
use Rattle.jobform.proofs.Forming.{one_count, no_first, no_entries, another_count, job_read}
use Rattle.jobform.proofs.read_job_form.Goals as goal

pub returns-then-bytes-gt-MOST_JOB_BYTES : goal.returns-then-bytes-gt-MOST_JOB_BYTES
unfolding ReadJob
returns-then-bytes-gt-MOST_JOB_BYTES c = too_long c.if-bytes-gt-MOST_JOB_BYTES.true

pub returns-in_err-after : goal.returns-in_err-after
unfolding ReadInto ReadJob
returns-in_err-after c = rw c.from_residual.ensures (no_first c.if-bytes-gt-MOST_JOB_BYTES.false c.in_err-after.ensures)

pub returns-then-k-told : goal.returns-then-k-told
unfolding ReadInto ReadEntries ReadJob
returns-then-k-told c =
    let first = one_count c.in_ok-after.ensures in
    job_read c.if-bytes-gt-MOST_JOB_BYTES.false c.in_ok-after.after.at first c.in_ok-k.ensures c.if-k-told.true

pub returns-else-k-told : goal.returns-else-k-told
unfolding ReadInto ReadEntries ReadJob
returns-else-k-told c =
    let first = one_count c.in_ok-after.ensures in
    another_count c.if-bytes-gt-MOST_JOB_BYTES.false c.in_ok-after.after.at first c.in_ok-k.ensures c.if-k-told.false

pub returns-in_err-k : goal.returns-in_err-k
unfolding ReadInto ReadEntries ReadJob
returns-in_err-k c =
    let first = one_count c.in_ok-after.ensures in
    rw c.from_residual-in_err-k.ensures (no_entries c.if-bytes-gt-MOST_JOB_BYTES.false c.in_ok-after.after.at first c.in_err-k.ensures)
