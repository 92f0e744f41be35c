-- `put_rows` meets its contract.
use Rattle.record.specs.Meant.{meant}
use Rattle.insert.proofs.Putting.{both_put}
use native.Mathlib.Omega.{arith}
use Rattle.insert.proofs.put_rows.Goals as goal

pub returns : goal.returns
returns c =
    let args = c.args in
    let put-row = c.put_row in
    let put-row2 = c.put_row-2 in
    both_put args.rows (meant args.r) args.room.now put-row.new.room put-row2.new.room (omega arith) put-row.ensures put-row2.ensures
