-- An exact sum as a whole part and a rest.
use Rattle.std.specs.Prelude.{◌≡◌, ◌<◌, ℤ, pos, ◌+ℤ◌, ◌*ℤ◌}
use Rattle.wide.specs.declared.Wide.{Wide}
use Rattle.wide.specs.Rounding.{divisor}

-- the sum that it stands for
abbrev pub value : Wide → ℤ
value w = pos divisor *ℤ w.whole +ℤ pos w.rest

-- it is the sum z, and the rest is less than a whole: no second one is (`exact_one`)
pub record Exact (z : ℤ) (w : Wide) : Type 0 where
  pub is : value w ≡ z
  pub below : w.rest < divisor
