-- `check_at` meets its contract.
use Rattle.faults.specs.Order.{refusals_at, refusals_after_counts}
use Rattle.faults.proofs.Order.{refuse_at, rows_at}
use Rattle.refusal.proofs.Laws.{none_yet, ◌nor◌}
use Rattle.skin.proofs.check_at.Goals as goal

pub returns-then-not-counts_fit_at : goal.returns-then-not-counts_fit_at
unfolding refusals_at
returns-then-not-counts_fit_at c =
    let args = c.args in
    refuse_at args.first args.xs.now args.t.now none_yet (c.counts_fit_at.ensures.when_false c.if-not-counts_fit_at.true)

pub returns-then-out_of_range : goal.returns-then-out_of_range
unfolding refusals_at refusals_after_counts
returns-then-out_of_range c =
    let args = c.args in
    let counts-fit-at = c.counts_fit_at in
    let if1 = c.if-not-counts_fit_at in
    refuse_at args.first args.xs.now args.t.now ((λ n. n (counts-fit-at.ensures.when_true if1.false)) nor none_yet) (c.out_of_range.ensures.when_true c.if-out_of_range.true)

pub check_rows-requires : goal.check_rows-requires
check_rows-requires c =
    let counts-fit-at = c.counts_fit_at in
    let if1 = c.if-not-counts_fit_at in
    let f = (counts-fit-at.ensures.when_true if1.false) in record { table = f.table; count = f.coordinates.count }

pub returns : goal.returns
returns c =
    let args = c.args in
    let counts-fit-at = c.counts_fit_at in
    let if1 = c.if-not-counts_fit_at in
    let out_of_range = c.out_of_range in
    rows_at args.first args.xs.now args.t.now _ (counts-fit-at.ensures.when_true if1.false) (out_of_range.ensures.when_false c.if-out_of_range.false) c.check_rows.ensures
