-- Recovery under the order of the unit and the figure.
use Rattle.bridge.proofs.flaxglimmer_recover.Goals as goal

pub returns : goal.returns
returns c =
    let recover = c.recover in
    let order_of_lem = c.order_of in
    record { answer = recover.result; gives = rw order_of_lem.ensures at recover.ensures; says = c.recovery_of-recovery.ensures }
