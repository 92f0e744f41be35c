-- What inner functions are asked on and give: no public contract names it.
use Rattle.std.specs.Prelude.{List, ℕ, ◌*◌, ◌≤◌, ℤ, length}
use Rattle.surface.specs.Limits.{most_rows}
use Rattle.surface.specs.Rows.{Row}
use Rattle.surface.specs.Table.{Follows}
use Rattle.corners.specs.Limits.{most_coordinate}
use Rattle.corners.specs.Skin.{InRange}
use Rattle.distance.specs.Inner.{Has}

-- what a checked stage with its coordinates gives: no more rows than a table may have, each corner of a row in the table (rows turn, so this speaks of all
-- three), coordinates in range
pub record WithCoordinates (T : List Row) (xs : List ℤ) : Type 0 where
  pub most : length T ≤ most_rows
  pub corners : {v p q : ℕ} → Follows T v p q → Has xs v
  pub in_range : InRange xs

-- a minor is two products of two coordinates, a row's determinant six products of three
abbrev pub minor_bound : ℕ
minor_bound = 2 * (most_coordinate * most_coordinate)

abbrev pub row_bound : ℕ
row_bound = 3 * (most_coordinate * minor_bound)

-- the sum of as many rows as a table may have
abbrev pub sum_bound : ℕ
sum_bound = row_bound * most_rows
