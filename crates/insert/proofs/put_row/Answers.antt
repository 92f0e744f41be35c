-- `put_row` meets its contract.
use lib.ListN.{length-set}
use Rattle.insert.proofs.Filling.{row_put}
use native.Mathlib.Omega.{arith}
use Rattle.insert.proofs.put_row.Goals as goal

pub bounds-room-i-2 : goal.bounds-room-i-2
bounds-room-i-2 c =
    let room = c.move_on in
    let pre = c.requires in
    simp length-set (omega (arith, room.auto.room, pre.rows_in_bounds))

pub bounds-room-i-3 : goal.bounds-room-i-3
bounds-room-i-3 c =
    let room = c.move_on in
    let pre = c.requires in
    simp length-set (omega (arith, room.auto.room, pre.rows_in_bounds))

pub returns : goal.returns
returns c =
    let args = c.args in
    let move-on = c.move_on in
    let pre = c.requires in
    let room = c.move_on in
    row_put args.rows args.r.place.0 args.r.a.0 args.r.b.0 args.r.c.0 args.room.now move-on.new.room pre.place_le_rows pre.rows_in_bounds room.auto.room move-on.ensures
