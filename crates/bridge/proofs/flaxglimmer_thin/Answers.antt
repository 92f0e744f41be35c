-- Thinning under the order of the unit and the figure.
use Rattle.bridge.proofs.flaxglimmer_thin.Goals as goal

pub returns : goal.returns
returns c =
    let thin = c.thin in
    let order_of_lem = c.order_of in
    record { answer = thin.result; gives = rw order_of_lem.ensures at thin.ensures; says = c.counted_thinning.ensures }
