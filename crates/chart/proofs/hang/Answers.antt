-- `hang` meets its contract.
use Rattle.chart.proofs.Linking.{head_hung, link_hung}
use native.Mathlib.Omega.{arith}
use Rattle.chart.proofs.hang.Goals as goal

pub returns-then-x-eq0 : goal.returns-then-x-eq0
returns-then-x-eq0 c =
    let args = c.args in
    let if1 = c.if-x-eq0 in
    let q = head_hung args.last.now args.prev.now args.u args.x args.z if1.true in
    record { last_after = q.0; prev_after = q.1 }

pub returns-else-x-eq0 : goal.returns-else-x-eq0
returns-else-x-eq0 c =
    let args = c.args in
    let if1 = c.if-x-eq0 in
    let q = link_hung args.last.now args.prev.now args.u args.x args.z (omega (arith, if1.false)) in
    record { last_after = q.0; prev_after = q.1 }
