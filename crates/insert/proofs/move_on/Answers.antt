-- `move_on` meets its contract.
use Rattle.insert.proofs.Moving.{move_none, move_more, move_end}
use native.Mathlib.Omega.{arith}
use Rattle.insert.proofs.move_on.Goals as goal

pub loop-k-init : goal.loop-k-init
loop-k-init c =
    let pre = c.requires in
    let args = c.args in
    (pre.i_le_j, move_none args.j args.room.now pre.j_in_bounds)

pub loop-k-preserved : goal.loop-k-preserved
loop-k-preserved c =
    let args = c.args in
    let pre = c.requires in
    let loop = c.loop-k in
    (omega arith, move_more args.j args.room.now pre.j_in_bounds loop.k loop.room (omega arith) loop.invariant.1)

pub returns : goal.returns
returns c =
    let args = c.args in
    let loop = c.loop-k in
    let loop-test = c.loop-k-test in
    move_end args.i args.j args.room.now loop.k loop.room loop.invariant.0 loop-test.false loop.invariant.1
