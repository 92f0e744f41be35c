-- By the unit.
use Rattle.std.proofs.Common.{refl, rules}
use lib.Ieee.{of_bits}
use Rattle.across.specs.Units.{length_of_lem}
use Rattle.across.proofs.length_of.Goals as goal

pub returns-in-1 : goal.returns-in-1
unfolding length_of_lem
returns-in-1 c = rw c.in-1.is refl

pub returns-in-2 : goal.returns-in-2
unfolding length_of_lem
returns-in-2 c = rw c.in-2.is refl

pub returns-in-3 : goal.returns-in-3
unfolding length_of_lem
returns-in-3 c = rw c.in-3.is refl

pub returns-in-4 : goal.returns-in-4
unfolding length_of_lem
returns-in-4 c = rw c.in-4.is refl

pub returns-in_default : goal.returns-in_default
unfolding length_of_lem of_bits
returns-in_default c = search rules
