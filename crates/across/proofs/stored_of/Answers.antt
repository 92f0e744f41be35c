-- By the answer.
use mathlib.Core.Path.{refl}
use Rattle.across.proofs.stored_of.Goals as goal

pub returns-in-Some : goal.returns-in-Some
returns-in-Some c = rw c.in-Some.is (refl, refl)

pub returns-in-None : goal.returns-in-None
returns-in-None c = rw c.in-None.is (refl, refl)
