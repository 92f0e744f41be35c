-- The exact sum's figure, rounded once.
use mathlib.Core.Path.{◌∙◌, ap}
use mir.Syntax.{w64}
use mir.ValLaws.{to_z-of_z}
use Rattle.wide.specs.Rounding.{figure}
use Rattle.figure.proofs.Sizes.{sum_wide}
use Rattle.figure.proofs.volume_of.Goals as goal

pub cubic_metres-requires : goal.cubic_metres-requires
cubic_metres-requires c = sum_wide c.requires c.exact_sum_of.ensures

pub returns : goal.returns
returns c =
    let cubic_metres_lem = c.cubic_metres in
    to_z-of_z w64 cubic_metres_lem.result (record { sfits = cubic_metres_lem.type_inv })
    ∙ cubic_metres_lem.ensures
    ∙ ap figure c.exact_sum_of.ensures.is
