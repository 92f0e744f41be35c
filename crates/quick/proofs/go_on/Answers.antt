-- The front of a lent table is thinned, what lies past it stays.
use mathlib.Core.Path.{sym}
use Prim.Native.Nat.{ℕ, ◌*◌}
use lib.ListN.{replicate}
use lib.Seq.{length-take-le}
use Rattle.surface.specs.Limits.{most_rows}
use Rattle.quick.proofs.Closing.{front_fits, went_by}
use native.Mathlib.Omega.{arith}
use Rattle.quick.proofs.go_on.Goals as goal

pub slice_bounds-thin_all-end : goal.slice_bounds-thin_all-end
slice_bounds-thin_all-end c =
    let pre = c.requires in
    pre.inside

pub slice_bounds-thin_all-end-2 : goal.slice_bounds-thin_all-end-2
slice_bounds-thin_all-end-2 c =
    let pre = c.requires in
    sym (length-take-le _ _ pre.inside)

pub slice_bounds-held-end : goal.slice_bounds-held-end
slice_bounds-held-end c =
    let pre = c.requires in
    front_fits pre

pub slice_bounds-thin_all-end-3 : goal.slice_bounds-thin_all-end-3
slice_bounds-thin_all-end-3 c =
    let pre = c.requires in
    sym (length-take-le _ _ (front_fits pre))

pub thin_all-requires : goal.thin_all-requires
thin_all-requires c =
    let pre = c.requires in
    let args = c.args in
    let a = length-take-le (3 * args.rows) args.table.now pre.inside in let b = length-take-le {A = ℕ} (4 * args.rows) (replicate (4 * most_rows) 0) (front_fits pre) in record { stage_table = pre.table; t_value = omega arith; room_for = (pre.stand, pre.room) }

pub returns : goal.returns
returns c =
    let thin-all = c.thin_all in
    let pre = c.requires in
    let args = c.args in
    went_by args.n args.table.now args.rows args.log.now args.done _ _ _ pre thin-all.ensures
