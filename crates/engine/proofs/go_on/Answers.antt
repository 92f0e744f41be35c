-- After each step the table and the log are what the steps so far have made (`Going`); rows fall by two.
use Rattle.engine.proofs.Going.{go_start, go_on, go_end, room_left}
use native.Mathlib.Omega.{arith}
use Rattle.engine.proofs.go_on.Goals as goal

pub loop-kept-init : goal.loop-kept-init
loop-kept-init c = go_start c.requires.can_go_on

pub overflow_mul-k : goal.overflow_mul-k
overflow_mul-k c =
    let k = c.loop-kept in
    let room = room_left k.table k.log k.r k.k k.invariant c.in-Some.ensures in
    omega (arith, k.invariant.same_log)

pub write_record-requires : goal.write_record-requires
write_record-requires c =
    let k = c.loop-kept in
    room_left k.table k.log k.r k.k k.invariant c.in-Some.ensures

pub overflow_add-k : goal.overflow_add-k
overflow_add-k c =
    let k = c.loop-kept in
    let room = room_left k.table k.log k.r k.k k.invariant c.in-Some.ensures in
    omega (arith, k.invariant.same_log)

pub loop-kept-preserved : goal.loop-kept-preserved
loop-kept-preserved c =
    let k = c.loop-kept in
    go_on k.table k.log k.r k.k k.invariant _ _ _ c.in-Some.ensures c.contract_front-e.ensures c.contract_front-e.auto.table c.write_record.ensures

pub returns : goal.returns
returns c =
    let k = c.loop-kept in
    go_end k.table k.log k.r k.k k.invariant c.in_default.ensures
