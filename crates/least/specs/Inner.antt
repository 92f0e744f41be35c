-- What inner functions are asked on and give: no public contract names it.
use Rattle.std.specs.Prelude.{◌≡◌, List, ℕ, ◌*◌, ◌≤◌, ℤ, length, Some, None, Option}
use Rattle.corners.specs.Skin.{InRange}
use Rattle.length.specs.Limit.{most_limit}
use Rattle.distance.specs.Inner.{Has}

-- a usable limit, and coordinates in range, three for each of n corners
pub record WithinReach (l n : ℕ) (xs : List ℤ) : Type 0 where
  pub usable : l ≤ most_limit
  pub corners : length xs ≡ 3 * n
  pub in_range : InRange xs

-- what the limit asks: nothing where there is none
abbrev pub Measurable : Option ℕ → ℕ → List ℤ → Type 0
Measurable None n xs = Unit
Measurable (Some l) n xs = WithinReach l n xs

-- the same of one corner
abbrev pub MeasurableAt : Option ℕ → List ℤ → ℕ → Type 0
MeasurableAt None xs v = Unit
MeasurableAt (Some l) xs v = (l ≤ most_limit) × Has xs v × InRange xs
