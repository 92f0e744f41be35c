-- `deliver` meets its contract.
use mathlib.Core.Path.{refl}
use Rattle.std.proofs.lemmas.Result.{err_from_is_err_and}
use Rattle.sheet.proofs.Last.{no_table_room, no_corner_room, refused_skin, skin_put}
use Rattle.sheet.proofs.deliver.Goals as goal

pub returns-then-table-t : goal.returns-then-table-t
returns-then-table-t c =
    let pre = c.requires in
    let args = c.args in
    no_table_room pre args.table.now args.corners.now c.if-table-t.true

pub returns-then-corners-xs : goal.returns-then-corners-xs
returns-then-corners-xs c =
    let pre = c.requires in
    let args = c.args in
    no_corner_room pre args.table.now args.corners.now c.if-corners-xs.true

pub returns-in_err-check_first : goal.returns-in_err-check_first
returns-in_err-check_first c =
    let p = err_from_is_err_and c.from_residual.result c.from_residual.ensures.1 in
    rw (p.1, p.2) (refused_skin c.requires c.args.table.now c.args.corners.now c.if-table-t.false c.if-corners-xs.false _ _ c.in_err-check_first.ensures refl)

pub returns : goal.returns
returns c =
    rw (c.copy_from_slice.ensures.after, c.copy_from_slice-2.ensures.after) (
    skin_put c.requires c.args.table.now c.args.corners.now c.if-table-t.false c.if-corners-xs.false _ c.in_ok-check_first.ensures refl
    )
