-- `redo` meets its contract.
use Rattle.redo.proofs.Redoing.{redo_done, redo_not}
use Rattle.redo.proofs.redo.Goals as goal

pub returns-then-not-accepts-clause-redid : goal.returns-then-not-accepts-clause-redid
returns-then-not-accepts-clause-redid c =
    let args = c.args in
    let accepts = c.accepts in
    let if1 = c.if-not-accepts in
    redo_not args.rows args.table.now args.r (accepts.ensures.tells.when_false if1.true)

pub returns-clause-redid : goal.returns-clause-redid
returns-clause-redid c =
    let args = c.args in
    let pre = c.requires in
    let accepts = c.accepts in
    let if1 = c.if-not-accepts in
    let contract-front = c.contract_front in
    let table = c.contract_front in
    redo_done args.rows args.table.now args.r pre.stage_table pre.rows_in_bounds (accepts.ensures.tells.when_true if1.false) contract-front.result _ contract-front.ensures table.auto.table
