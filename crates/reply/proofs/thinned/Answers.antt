-- `thinned` meets its contract: the run without limit, its figures, and the text of both.
use mathlib.Core.Path.{sym, ◌∙◌}
use Prim.Native.Nat.{◌*◌}
use lib.Seq.{length-take-le}
use mir.Syntax.{w64}
use mir.ValLaws.{to_z-of_z}
use Rattle.record.specs.Layout.{width}
use Rattle.reply.proofs.Running.{first_coordinates, can_go_on, log_room, left_room, last_coordinates, run_put}
use native.Mathlib.Omega.{arith}
use borrow.Author.Rules.{rules}
use Rattle.reply.proofs.thinned.Goals as goal

pub volume_of-before-requires : goal.volume_of-before-requires
volume_of-before-requires c =
    let pre = c.requires in
    first_coordinates pre

pub go_on-k-requires-clause-can_go_on : goal.go_on-k-requires-clause-can_go_on
go_on-k-requires-clause-can_go_on c =
    let pre = c.requires in
    can_go_on pre

pub overflow_mul-left : goal.overflow_mul-left
overflow_mul-left c =
    let pre = c.requires in
    let go_on = c.go_on-k in
    let h = log_room pre go_on.ensures c.go_on-k.auto.log in search rules

pub overflow_sub-left : goal.overflow_sub-left
overflow_sub-left c =
    let pre = c.requires in
    let go_on = c.go_on-k in
    let table = c.go_on-k in
    left_room pre go_on.ensures c.go_on-k.auto.log table.auto.table

pub volume_of-after-requires : goal.volume_of-after-requires
volume_of-after-requires c =
    let pre = c.requires in
    let go_on = c.go_on-k in
    let table = c.go_on-k in
    last_coordinates pre go_on.ensures c.go_on-k.auto.log table.auto.table

pub overflow_mul-logged : goal.overflow_mul-logged
overflow_mul-logged c =
    let pre = c.requires in
    let go_on = c.go_on-k in
    let log2 = c.go_on-k in
    let h = log_room pre go_on.ensures log2.auto.log in search rules

pub slice_bounds-log-end : goal.slice_bounds-log-end
slice_bounds-log-end c =
    let pre = c.requires in
    let go_on = c.go_on-k in
    let log2 = c.go_on-k in
    let h = log_room pre go_on.ensures log2.auto.log in omega (arith, log2.auto.log)

pub slice_bounds-tell_run-end-3 : goal.slice_bounds-tell_run-end-3
slice_bounds-tell_run-end-3 c =
    let pre = c.requires in
    let go_on = c.go_on-k in
    let log2 = c.go_on-k in
    let h = log_room pre go_on.ensures log2.auto.log in
    sym (length-take-le (go_on.result * width) _ (omega (arith, log2.auto.log)))

pub returns : goal.returns
returns c =
    let volume-of = c.volume_of-before in
    let volume-of2 = c.volume_of-after in
    let pre = c.requires in
    let go_on = c.go_on-k in
    let log2 = c.go_on-k in
    let table = c.go_on-k in
    let tell-run = c.tell_run in
    let before = to_z-of_z w64 _ (record { sfits = volume-of.type_inv }) ∙ volume-of.ensures in
    let after = to_z-of_z w64 _ (record { sfits = volume-of2.type_inv }) ∙ volume-of2.ensures in
    run_put pre go_on.ensures log2.auto.log table.auto.table before after tell-run.ensures
