-- `check_stage` meets its contract.
use Rattle.faults.proofs.Order.{refuse_2, rows_told}
use Rattle.skin.proofs.check_stage.Goals as goal

pub returns-then-not-counts_fit : goal.returns-then-not-counts_fit
returns-then-not-counts_fit c =
    let args = c.args in
    refuse_2 args.n args.t.now (c.counts_fit.ensures.when_false c.if-not-counts_fit.true)

pub check_rows-requires : goal.check_rows-requires
check_rows-requires c = (c.counts_fit.ensures.when_true c.if-not-counts_fit.false)

pub returns : goal.returns
returns c =
    let args = c.args in
    let counts_fit_lem = c.counts_fit in
    rows_told args.n args.t.now _ (counts_fit_lem.ensures.when_true c.if-not-counts_fit.false) c.check_rows.ensures
