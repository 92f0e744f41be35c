-- `pair_of` meets its contract.
use Rattle.ends.specs.Rows.{ThirdIs, PairIs}
use Rattle.ends.proofs.pair_of.Goals as goal

pub returns-in_err-x : goal.returns-in_err-x
unfolding PairIs ThirdIs
returns-in_err-x c = rw c.from_residual.ensures (λ x y t u. c.in_err-x.ensures x t)

pub returns-in_err-y : goal.returns-in_err-y
unfolding PairIs ThirdIs
returns-in_err-y c = rw c.from_residual-in_err-y.ensures (λ x y t u. c.in_err-y.ensures y u)

pub returns : goal.returns
unfolding PairIs ThirdIs
returns c = (c.in_ok-x.ensures, c.in_ok-y.ensures)
