-- `change` meets its contract.
use mathlib.Core.Path.{sym, ◌∙◌}
use mir.Syntax.{w64}
use mir.ValLaws.{to_z-of_z}
use Rattle.std.proofs.lemmas.Result.{err_from_is_err_and}
use Rattle.refusal.proofs.Either.{lesser_passes}
use Rattle.volume.proofs.Laws.{checked_coordinates, change_done, change_refused}
use Rattle.volume.proofs.change.Goals as goal

pub returns-in_err-lesser : goal.returns-in_err-lesser
returns-in_err-lesser c =
    let p = err_from_is_err_and c.from_residual.result c.from_residual.ensures.1 in
    rw (p.1, p.2) (change_refused c.check_stage_at-of_earlier.ensures c.check_stage_at-of_later.ensures (sym c.lesser.ensures ∙ c.in_err-lesser.was))

pub change_between-requires : goal.change_between-requires
change_between-requires c =
    let both = lesser_passes _ _ (sym c.lesser.ensures ∙ c.in_ok-lesser.was) in
    (checked_coordinates c.check_stage_at-of_earlier.ensures both.0, checked_coordinates c.check_stage_at-of_later.ensures both.1)

pub returns : goal.returns
returns c =
    let is = to_z-of_z w64 c.change_between.result (record { sfits = c.change_between.type_inv }) ∙ c.change_between.ensures in
    change_done c.check_stage_at-of_earlier.ensures c.check_stage_at-of_later.ensures (sym c.lesser.ensures ∙ c.in_ok-lesser.was) is
