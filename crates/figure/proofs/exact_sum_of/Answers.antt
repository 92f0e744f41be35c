-- The sum, entered as whole part and rest.
use mir.Syntax.{w64}
use Rattle.ints.proofs.Machine.{told}
use Rattle.figure.proofs.exact_sum_of.Goals as goal

pub returns : goal.returns
returns c =
    let sixfold-sum = c.sixfold_sum in
    rw (told w64 sixfold-sum.type_inv sixfold-sum.ensures).same at c.enter.ensures
