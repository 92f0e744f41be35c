-- The stored table at the place.
use Rattle.bridge.proofs.flaxglimmer_trial_number.Goals as goal

pub returns : goal.returns
returns c = record { answer = c.trial_number.result; tells = c.trial_number.ensures; stores = c.stored_of.ensures }
