-- `accepts` meets its contract, test by test.
use Rattle.refusal.proofs.Tells.{tells_false}
use Rattle.redo.proofs.Accepting.{not_below_lem}
use Rattle.redo.proofs.accepts.Goals as goal

pub returns-then-n-r-clause-tells : goal.returns-then-n-r-clause-tells
returns-then-n-r-clause-tells c =
    let args = c.args in
    let pre = c.requires in
    let if2 = c.if-n-r in
    tells_false (not_below_lem args.t.now args.r pre.stage_table if2.true)
