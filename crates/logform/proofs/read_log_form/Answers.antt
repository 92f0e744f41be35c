-- `read_log_form` meets its contract.
use Rattle.heading.specs.Inner.{ReadFirst}
use Rattle.logform.specs.Inner.{WhatIsLeft, too_long, ReadLogForm}
use Rattle.logform.proofs.Forming.{no_first, no_records, log_form}
use Rattle.logform.proofs.read_log_form.Goals as goal

pub returns-then-bytes-gt-MOST_LOG_BYTES : goal.returns-then-bytes-gt-MOST_LOG_BYTES
unfolding ReadLogForm
returns-then-bytes-gt-MOST_LOG_BYTES c = too_long c.if-bytes-gt-MOST_LOG_BYTES.true

pub returns-in_err-first : goal.returns-in_err-first
unfolding ReadFirst ReadLogForm
returns-in_err-first c = rw c.from_residual.ensures (no_first c.if-bytes-gt-MOST_LOG_BYTES.false c.in_err-first.ensures)

pub returns-in_err-records : goal.returns-in_err-records
unfolding ReadFirst WhatIsLeft ReadLogForm
returns-in_err-records c =
    rw c.from_residual-in_err-records.ensures (no_records c.if-bytes-gt-MOST_LOG_BYTES.false c.in_ok-first.first.after.at c.in_ok-first.ensures c.in_err-records.ensures)

pub returns : goal.returns
unfolding ReadFirst WhatIsLeft ReadLogForm
returns c = log_form c.if-bytes-gt-MOST_LOG_BYTES.false _ c.in_ok-first.ensures c.in_ok-records.ensures
