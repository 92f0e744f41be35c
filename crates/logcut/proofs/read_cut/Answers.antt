-- `read_cut` meets its contract: the whole lines are read as a log sheet, and its counts are held against the skin's.
use Rattle.std.proofs.lemmas.Result.{err_from_is_err_and}
use Rattle.logcut.specs.Inner.{ReadCut}
use Rattle.logcut.proofs.Reading.{cut_long, cut_refused, cut_counts, cut_kept}
use Rattle.logcut.proofs.read_cut.Goals as goal

pub returns-then-bytes-gt-MOST_LOG_BYTES : goal.returns-then-bytes-gt-MOST_LOG_BYTES
unfolding ReadCut
returns-then-bytes-gt-MOST_LOG_BYTES c = cut_long c.args.bytes.now c.args.n c.args.m c.if-bytes-gt-MOST_LOG_BYTES.true

pub returns-in_err-read : goal.returns-in_err-read
unfolding ReadCut
returns-in_err-read c =
    let p = err_from_is_err_and c.from_residual.result c.from_residual.ensures.1 in
    rw (p.1, p.2) (cut_refused c.if-bytes-gt-MOST_LOG_BYTES.false c.whole_end-end.ensures c.requires c.in_err-read.ensures)

pub returns-then-read-n : goal.returns-then-read-n
unfolding ReadCut
returns-then-read-n c = cut_counts c.if-bytes-gt-MOST_LOG_BYTES.false c.whole_end-end.ensures c.requires c.in_ok-read.ensures (λ e. c.if-read-n.true e.0)

pub returns-then-read-m : goal.returns-then-read-m
unfolding ReadCut
returns-then-read-m c = cut_counts c.if-bytes-gt-MOST_LOG_BYTES.false c.whole_end-end.ensures c.requires c.in_ok-read.ensures (λ e. c.if-read-m.true e.1)

pub returns : goal.returns
unfolding ReadCut
returns c = cut_kept c.if-bytes-gt-MOST_LOG_BYTES.false c.whole_end-end.ensures c.requires c.in_ok-read.ensures c.if-read-n.false c.if-read-m.false
