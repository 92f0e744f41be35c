-- `undo_log` meets its contract.
use Rattle.surface.specs.Limits.{most_corners}
use Rattle.slots.proofs.Marks.{no_mark}
use Rattle.slots.proofs.Slots.{under_more}
use Rattle.slots.proofs.Staged.{table_whole, table_under}
use Rattle.undoflips.proofs.Going.{going_none, charted, done_all, next_fails, next_done}
use native.Mathlib.Omega.{arith}
use Rattle.undoflips.proofs.undo_log.Goals as goal

pub chains-requires-clause-under : goal.chains-requires-clause-under
chains-requires-clause-under c = under_more (table_under c.requires.table) c.requires.table.stage.many

pub chains-requires-clause-blank : goal.chains-requires-clause-blank
chains-requires-clause-blank c = record { blank = λ k. no_mark most_corners k }

pub loop-done-init : goal.loop-done-init
loop-done-init c =
    let pre = c.requires in
    let many = pre.table.stage.many in
    going_none c.args.table.now c.args.log.now pre (record { whole = table_whole pre.table; under = under_more (table_under pre.table) (omega (arith, c.chains.auto.last)); chained = c.chains.ensures })

pub undo-requires-clause-charted : goal.undo-requires-clause-charted
undo-requires-clause-charted c =
    let k = c.loop-done in
    charted c.args.table.now c.args.log.now c.requires k.done k.table k.last k.prev k.invariant

pub returns-then-not-undo : goal.returns-then-not-undo
returns-then-not-undo c =
    let k = c.loop-done in
    next_fails c.args.table.now c.args.log.now c.requires k.done k.table k.last k.prev k.invariant c.loop-done-test.true _ (rw (c.read_flip-r.ensures, c.if-not-undo.true) at c.undo.ensures.undoes)

pub loop-done-preserved : goal.loop-done-preserved
loop-done-preserved c =
    let k = c.loop-done in
    next_done c.args.table.now c.args.log.now c.requires k.done k.table k.last k.prev k.invariant c.loop-done-test.true _ (rw (c.read_flip-r.ensures, c.if-not-undo.false) at c.undo.ensures.undoes) c.undo.auto.t c.undo.ensures.in_chains

pub returns : goal.returns
returns c =
    let k = c.loop-done in
    done_all c.args.table.now c.args.log.now c.requires k.done k.table k.last k.prev k.invariant (omega arith)
