-- `grow_log` meets its contract: the records done are the last of the log.
use mathlib.Core.Path.{◌∙◌}
use native.Mathlib.Omega.{arith}
use Rattle.regrow.proofs.Undoing.{undone_none, table_stands, done_all, same, room_for_two, next_fails, next_done}
use Rattle.regrow.proofs.grow_log.Goals as goal

pub loop-done-init : goal.loop-done-init
loop-done-init c =
    let args = c.args in
    let pre = c.requires in
    undone_none args.corners args.rows args.room.now args.log.now (pre)

pub grow-requires : goal.grow-requires
grow-requires c =
    let args = c.args in
    let pre = c.requires in
    let loop = c.loop-done in
    let loop-test = c.loop-done-test in
    record { stage_table = table_stands args.corners args.rows args.room.now args.log.now (pre) loop.done loop.room loop.invariant; rows_in_bounds = room_for_two args.corners args.rows args.room.now args.log.now (pre) loop.done loop.room loop.invariant loop-test.true }

pub shape_of-room-then-not-grow : goal.shape_of-room-then-not-grow
shape_of-room-then-not-grow c =
    let room = c.grow in
    let args = c.args in
    let pre = c.requires in
    let loop = c.loop-done in
    room.auto.room ∙ same args.corners args.rows args.room.now args.log.now (pre) loop.done loop.room loop.invariant

pub returns-then-not-grow : goal.returns-then-not-grow
returns-then-not-grow c =
    let args = c.args in
    let pre = c.requires in
    let loop = c.loop-done in
    let loop-test = c.loop-done-test in
    let read-record = c.read_record-r in
    let grow = c.grow in
    let if1 = c.if-not-grow in
    next_fails args.corners args.rows args.room.now args.log.now (pre) loop.done loop.room loop.invariant loop-test.true (rw read-record.ensures at (rw if1.true at grow.ensures))

pub loop-done-preserved : goal.loop-done-preserved
loop-done-preserved c =
    let args = c.args in
    let pre = c.requires in
    let loop = c.loop-done in
    let loop-test = c.loop-done-test in
    let read-record = c.read_record-r in
    let grow = c.grow in
    let if1 = c.if-not-grow in
    next_done args.corners args.rows args.room.now args.log.now (pre) loop.done loop.room loop.invariant loop-test.true (rw read-record.ensures at (rw if1.false at grow.ensures))

pub shape_of-room : goal.shape_of-room
shape_of-room c =
    let args = c.args in
    let pre = c.requires in
    let loop = c.loop-done in
    same args.corners args.rows args.room.now args.log.now (pre) loop.done loop.room loop.invariant

pub returns : goal.returns
returns c =
    let args = c.args in
    let pre = c.requires in
    let loop = c.loop-done in
    let loop-test = c.loop-done-test in
    done_all args.corners args.rows args.room.now args.log.now (pre) loop.done loop.room loop.invariant (omega arith) loop-test.false
