-- What the reader's inner functions ask of a unit of num * 2 ^ up / den centimetres. 01 does not speak of these.
use Rattle.std.specs.Prelude.{ℕ, ◌^◌, ◌≤◌, ◌<◌}

-- small enough for 64 bits: 53 digits times num fit
pub record Small (num up den : ℕ) : Type 0 where
  pub num_some : 0 < num
  pub num_below : num < 2 ^ 11
  pub up_most : up ≤ 64
  pub den_some : 0 < den
  pub den_below : den < 2 ^ 12
