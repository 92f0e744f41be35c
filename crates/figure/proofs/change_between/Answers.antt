-- The later exact sum less the earlier, rounded once.
use mathlib.Core.Path.{◌∙◌, ap}
use mir.Syntax.{w64}
use mir.ValLaws.{to_z-of_z}
use Rattle.wide.specs.Rounding.{figure}
use Rattle.wide.proofs.Laws.{exact_minus}
use Rattle.figure.proofs.Sizes.{sum_wide, change_wide}
use Rattle.figure.proofs.change_between.Goals as goal

pub less-requires : goal.less-requires
less-requires c =
    let p = c.requires in
    (sum_wide p.1 c.exact_sum_of.ensures, sum_wide p.0 c.exact_sum_of-2.ensures)

pub cubic_metres-requires : goal.cubic_metres-requires
cubic_metres-requires c =
    let p = c.requires in
    change_wide p.0 p.1 (exact_minus c.exact_sum_of.ensures c.exact_sum_of-2.ensures c.less.ensures)

pub returns : goal.returns
returns c =
    let cubic_metres_lem = c.cubic_metres in
    let difference = exact_minus c.exact_sum_of.ensures c.exact_sum_of-2.ensures c.less.ensures in
    to_z-of_z w64 cubic_metres_lem.result (record { sfits = cubic_metres_lem.type_inv })
    ∙ cubic_metres_lem.ensures
    ∙ ap figure difference.is
