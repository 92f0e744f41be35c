-- `each_record` meets its contract.
use Rattle.std.proofs.Common.{rules}
use Rattle.std.proofs.lemmas.Result.{err_from_is_err_and}
use Rattle.logform.specs.Inner.{WhatIsLeft}
use Rattle.logreader.proofs.Each.{not_opened, opened_there, other_follows, few_records, room_short, each_done}
use Rattle.logreader.proofs.each_record.Goals as goal

pub returns-in_err-opened : goal.returns-in_err-opened
returns-in_err-opened c =
    let p = err_from_is_err_and c.from_residual.result c.from_residual.ensures.1 in
    rw (p.1, p.2) (not_opened _ c.in_err-opened.ensures)

pub returns-in_default : goal.returns-in_default
unfolding WhatIsLeft
returns-in_default c = other_follows (opened_there c.in_ok-opened.opened c.in_ok-opened.ensures) c.in_default.ensures

pub overflow_mul-k : goal.overflow_mul-k
unfolding WhatIsLeft
overflow_mul-k c = let h = few_records (opened_there c.in_ok-opened.opened c.in_ok-opened.ensures) c.in-Some.ensures in search rules

pub returns-then-log-k : goal.returns-then-log-k
unfolding WhatIsLeft
returns-then-log-k c = room_short (opened_there c.in_ok-opened.opened c.in_ok-opened.ensures) c.in-Some.ensures c.if-log-k.true

pub returns : goal.returns
unfolding WhatIsLeft
returns c = each_done (opened_there c.in_ok-opened.opened c.in_ok-opened.ensures) c.in-Some.ensures _ c.put_records.ensures c.if-log-k.false
