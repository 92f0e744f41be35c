-- Each engine leaves its own run; the quick one's is the plain one's.
use Rattle.engines.proofs.Same.{quick_as_plain, free}
use Rattle.engines.proofs.go_on.Goals as goal

pub returns-in-None : goal.returns-in-None
returns-in-None c =
    let go-on2 = c.go_on-in-None in
    let enum-told3 = c.in-None in
    let pre = c.requires in
    let args = c.args in
    free args.xs.now enum-told3.is (quick_as_plain pre.can_go_on.table.stage go-on2.ensures)
