-- `settle` meets its contract.
use mathlib.Core.Path.{refl, ◌∙◌}
use mir.Syntax.{w64}
use mir.ValLaws.{to_z-of_z}
use Rattle.std.proofs.lemmas.Result.{err_from_is_err_and}
use Rattle.job.specs.Inner.{turned_down}
use Rattle.job.proofs.Judging.{worth, summable}
use Rattle.job.proofs.settle.Goals as goal

pub figure_of-requires : goal.figure_of-requires
figure_of-requires c = (summable c.requires.1 c.in_ok-judge.ensures, c.requires.0)

pub returns-in_err-judge : goal.returns-in_err-judge
returns-in_err-judge c =
    let p = err_from_is_err_and c.from_residual.result c.from_residual.ensures.1 in
    rw (p.1, p.2) (turned_down c.in_err-judge.ensures.first refl)

pub returns : goal.returns
returns c =
    let judged = c.in_ok-judge.ensures in
    worth c.requires.0 (judged.passing refl) judged.first (to_z-of_z w64 c.figure_of.result (record { sfits = c.figure_of.type_inv }) ∙ c.figure_of.ensures)
