-- When a table with its corners is a skin: a stage with coordinates, that uses every corner.
use Rattle.std.specs.Prelude.{◌≡◌, List, ℕ, ◌*◌, ◌≤◌, ◌<◌, ℤ, nat_abs, length}
use Rattle.surface.specs.Lists.{◌∈◌}
use Rattle.surface.specs.Rows.{Row}
use Rattle.surface.specs.Table.{Used}
use Rattle.surface.specs.Stage.{Stage}
use Rattle.corners.specs.Limits.{most_coordinate}

-- coordinates from -50,000 to 50,000
pub record InRange (xs : List ℤ) : Type 0 where
  pub range : {z : ℤ} → z ∈ xs → nat_abs z ≤ most_coordinate

-- the rows T with the coordinates xs, three for each of n corners, are a skin
pub record Skin (n : ℕ) (T : List Row) (xs : List ℤ) : Type 0 where
  pub stage : Stage n T
  pub corners : length xs ≡ 3 * n
  pub in_range : InRange xs
  -- every corner is used
  pub used : {v : ℕ} → v < n → Used T v
