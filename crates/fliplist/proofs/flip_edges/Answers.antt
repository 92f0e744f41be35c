-- `flip_edges` meets its contract.
use Rattle.surface.specs.Limits.{most_corners}
use Rattle.slots.proofs.Marks.{no_mark}
use Rattle.slots.proofs.Slots.{under_more}
use Rattle.slots.proofs.Staged.{table_whole, table_under}
use Rattle.fliplist.proofs.Going.{going_none, charted, done_all, next_stops, next_flips}
use native.Mathlib.Omega.{arith}
use Rattle.fliplist.proofs.flip_edges.Goals as goal

pub chains-requires-clause-under : goal.chains-requires-clause-under
chains-requires-clause-under c = under_more (table_under c.requires.table) c.requires.table.stage.many

pub chains-requires-clause-blank : goal.chains-requires-clause-blank
chains-requires-clause-blank c = record { blank = λ k. no_mark most_corners k }

pub loop-done-init : goal.loop-done-init
loop-done-init c =
    let pre = c.requires in
    let many = pre.table.stage.many in
    (pre, going_none c.args.table.now c.args.edges.now c.args.log.now pre (record { whole = table_whole pre.table; under = under_more (table_under pre.table) (omega (arith, c.chains.auto.last)); chained = c.chains.ensures }))

pub flip-requires-clause-charted : goal.flip-requires-clause-charted
flip-requires-clause-charted c =
    let k = c.loop-done in
    charted c.args.table.now c.args.edges.now c.args.log.now k.invariant.0 k.done k.table k.log k.last k.prev k.invariant.1

pub returns-in-Err : goal.returns-in-Err
returns-in-Err c =
    let k = c.loop-done in
    next_stops c.args.table.now c.args.edges.now c.args.log.now k.invariant.0 k.done k.table k.log k.last k.prev k.invariant.1 c.loop-done-test.true _ c.in-Err.ensures.tries

pub loop-done-preserved : goal.loop-done-preserved
loop-done-preserved c =
    let k = c.loop-done in
    (k.invariant.0, next_flips c.args.table.now c.args.edges.now c.args.log.now k.invariant.0 k.done k.table k.log k.last k.prev k.invariant.1 c.loop-done-test.true _ _ _ c.in-Ok.ensures.tries c.write_flip.ensures c.flip.auto.t c.flip.ensures.in_chains)

pub returns : goal.returns
returns c =
    let k = c.loop-done in
    done_all c.args.table.now c.args.edges.now c.args.log.now k.invariant.0 k.done k.table k.log k.last k.prev k.invariant.1 (omega arith)
