-- `replay_log` meets its contract: the records done are the first of the log.
use mathlib.Core.Path.{◌∙◌}
use Rattle.replay.proofs.Redoing.{redone_none, rows_there, rows_inside, table_stands, done_all, same, next_fails, next_done}
use native.Mathlib.Omega.{arith}
use Rattle.replay.proofs.replay_log.Goals as goal

pub loop-done-init : goal.loop-done-init
loop-done-init c =
    let args = c.args in
    let pre = c.requires in
    redone_none args.n args.table.now args.log.now pre

pub overflow_sub-rows : goal.overflow_sub-rows
overflow_sub-rows c =
    let args = c.args in
    let pre = c.requires in
    let loop = c.loop-done in
    rows_there args.n args.table.now args.log.now pre loop.done loop.table loop.invariant

pub redo-requires-clause-stage_table : goal.redo-requires-clause-stage_table
redo-requires-clause-stage_table c =
    let loop = c.loop-done in
    table_stands c.args.n c.args.table.now c.args.log.now c.requires loop.done loop.table loop.invariant

pub redo-requires-clause-rows_in_bounds : goal.redo-requires-clause-rows_in_bounds
redo-requires-clause-rows_in_bounds c =
    let loop = c.loop-done in
    rows_inside c.args.n c.args.table.now c.args.log.now c.requires loop.done loop.table loop.invariant

pub shape_of-table-then-not-redo : goal.shape_of-table-then-not-redo
shape_of-table-then-not-redo c =
    let table = c.redo in
    let args = c.args in
    let pre = c.requires in
    let loop = c.loop-done in
    table.auto.table ∙ same args.n args.table.now args.log.now pre loop.done loop.table loop.invariant

pub returns-then-not-redo : goal.returns-then-not-redo
returns-then-not-redo c =
    let args = c.args in
    let pre = c.requires in
    let loop = c.loop-done in
    let loop-test = c.loop-done-test in
    let read-record = c.read_record-r in
    let redo = c.redo in
    let if1 = c.if-not-redo in
    next_fails args.n args.table.now args.log.now pre loop.done loop.table loop.invariant loop-test.true (rw read-record.ensures at (rw if1.true at redo.ensures.redid))

pub loop-done-preserved : goal.loop-done-preserved
loop-done-preserved c =
    let args = c.args in
    let pre = c.requires in
    let loop = c.loop-done in
    let loop-test = c.loop-done-test in
    let read-record = c.read_record-r in
    let redo = c.redo in
    let if1 = c.if-not-redo in
    next_done args.n args.table.now args.log.now pre loop.done loop.table loop.invariant loop-test.true (rw read-record.ensures at (rw if1.false at redo.ensures.redid))

pub shape_of-table : goal.shape_of-table
shape_of-table c =
    let args = c.args in
    let pre = c.requires in
    let loop = c.loop-done in
    same args.n args.table.now args.log.now pre loop.done loop.table loop.invariant

pub returns : goal.returns
returns c =
    let args = c.args in
    let pre = c.requires in
    let loop = c.loop-done in
    let loop-test = c.loop-done-test in
    done_all args.n args.table.now args.log.now pre loop.done loop.table loop.invariant (omega arith) loop-test.false
