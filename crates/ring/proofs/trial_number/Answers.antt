-- The stored table computes to the one that follows the rule: one test over the whole.
use Rattle.std.proofs.Common.{refl}
use Rattle.ring.specs.Ring.{number_at}
use Rattle.ring.specs.Inner.{numbers_from, ring}
use Rattle.ring.proofs.Rule.{looked_up}
use Rattle.ring.proofs.trial_number.Goals as goal

pub returns : goal.returns
unfolding ring numbers_from number_at
returns c = rw c.copied.ensures (looked_up ring c.args.at c.get.result refl c.get.ensures.lookup)
