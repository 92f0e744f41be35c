-- `hanging` meets its contract.
use Rattle.chart.proofs.Linking.{head_after, link_after}
use native.Mathlib.Omega.{arith}
use Rattle.chart.proofs.hanging.Goals as goal

pub returns-then-x-eq0 : goal.returns-then-x-eq0
returns-then-x-eq0 c =
    let args = c.args in
    let if1 = c.if-x-eq0 in
    head_after args.last.now args.prev.now args.u args.x 0 if1.true

pub returns : goal.returns
returns c =
    let args = c.args in
    let if1 = c.if-x-eq0 in
    link_after args.last.now args.prev.now args.u args.x 0 (omega (arith, if1.false))
