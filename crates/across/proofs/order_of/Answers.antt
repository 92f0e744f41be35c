-- By the unit.
use mathlib.Core.Path.{refl, ap}
use borrow.Author.Tests.{eq-eqb, ne_eqb}
use Rattle.length.specs.declared.Order.TheVariants.{Limit}
use Rattle.across.specs.Units.{order_of_lem}
use Rattle.across.proofs.order_of.Goals as goal

pub returns-then-unit-eq0 : goal.returns-then-unit-eq0
unfolding order_of_lem
returns-then-unit-eq0 c = rw (eq-eqb _ _ c.if-unit-eq0.true) refl

pub returns : goal.returns
unfolding order_of_lem
returns c = rw (ne_eqb _ _ c.if-unit-eq0.false) (ap Limit c.length_of.ensures)
