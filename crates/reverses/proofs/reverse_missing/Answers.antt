-- `reverse_missing` meets its contract.
use lib.ListN.{get_or}
use Rattle.refusal.proofs.Tells.{tells_true, tells_false}
use Rattle.reverses.proofs.Back.{settle_more, no_reverse_at, both_ways}
use native.Mathlib.Omega.{arith}
use Rattle.reverses.proofs.reverse_missing.Goals as goal

pub returns-then-x-eq0 : goal.returns-then-x-eq0
returns-then-x-eq0 c =
    let loop = c.loop-e in
    let h = c.loop-e-test.true in
    tells_true (no_reverse_at c.args.t.now c.requires.whole loop.e _ h (loop.invariant.found loop.e (omega arith) h) c.if-x-eq0.true)

pub loop-e-preserved : goal.loop-e-preserved
loop-e-preserved c = settle_more c.args.t.now c.loop-e.reverse c.loop-e.e c.requires.whole c.loop-e-test.true c.if-x-eq0.false c.loop-e.invariant

pub returns : goal.returns
returns c =
    let i = c.loop-e.invariant in
    tells_false (both_ways c.args.t.now c.requires.whole (λ e h. (get_or c.loop-e.reverse e 0, i.settled e (omega arith))), record { room = i.room; reverses = λ e h. i.settled e (omega arith) })
