-- What sums are added, taken away and rounded on: no public contract names it.
use Rattle.std.specs.Prelude.{ℕ, ◌*◌, ◌^◌, ◌≤◌, ◌<◌, nat_abs}
use Rattle.wide.specs.declared.Wide.{Wide}
use Rattle.wide.specs.Rounding.{divisor}
use Rattle.wide.specs.Wide.{value}

-- two whole parts of this size, and one more, fit an i64
abbrev pub most_whole : ℕ
most_whole = 2 ^ 61

abbrev pub most_wide : ℕ
most_wide = divisor * most_whole

pub record Fits (w : Wide) : Type 0 where
  pub below : w.rest < divisor
  pub size : nat_abs (value w) ≤ most_wide
