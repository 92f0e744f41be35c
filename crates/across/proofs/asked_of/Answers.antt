-- By the answer.
use mathlib.Core.Path.{refl, ap}
use lib.ListN.{length}
use Rattle.logrecords.specs.Answer.{told_next}
use Rattle.across.proofs.Saying.{said}
use Rattle.across.proofs.asked_of.Goals as goal

pub returns-in-Found : goal.returns-in-Found
returns-in-Found c = (said told_next c.in-Found.is (record { status = refl; values = rw c.numbers_of.ensures refl }), ap length c.numbers_of.ensures)

pub returns-in-End : goal.returns-in-End
returns-in-End c = (said told_next c.in-End.is (record { status = refl; values = refl }), refl)

pub returns-in-Bad : goal.returns-in-Bad
returns-in-Bad c = (said told_next c.in-Bad.is (record { status = c.from.ensures; values = refl }), refl)
