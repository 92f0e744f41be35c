-- What inner functions are asked on and give: no public contract names it.
use Rattle.std.specs.Prelude.{List, [], ◌∷◌, ℕ, ◌≤◌}
use Rattle.text.specs.Decimal.{digit}

-- the bytes 0 to 9
pub record Digit (b : ℕ) : Type 0 where
  pub least : digit 0 ≤ b
  pub most : b ≤ digit 9

-- a number ends where no digit follows: another byte, or the end
abbrev pub NoDigit : List ℕ → Type 0
NoDigit [] = Unit
NoDigit (b ∷ l) = ¬ Digit b
