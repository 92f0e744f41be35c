-- Refusal 2: counts against their limits, and lengths that are multiples of 3.
use Rattle.std.specs.Prelude.{◌≡◌, List, ℕ, ◌≤◌, ◌%◌, ◌/◌, ℤ, length}
use Rattle.surface.specs.Limits.{least_rows, most_rows, least_corners, most_corners}
use Rattle.surface.specs.Rows.{rows}

-- 4 to 1,024 rows
pub record RowsFit (k : ℕ) : Type 0 where
  pub least : least_rows ≤ k
  pub most : k ≤ most_rows

-- 4 to 514 corners
pub record CornersFit (n : ℕ) : Type 0 where
  pub few : least_corners ≤ n
  pub many : n ≤ most_corners

-- a table: its length is a multiple of 3, and its rows are not outside the limits
pub record TableFits (t : List ℕ) : Type 0 where
  pub threes : length t % 3 ≡ 0
  pub count : RowsFit (length (rows t))

-- a corner has three coordinates
abbrev pub corners : List ℤ → ℕ
corners xs = length xs / 3

-- coordinates: their length is a multiple of 3, and the corners are not outside the limits
pub record CoordinatesFit (xs : List ℤ) : Type 0 where
  pub threes : length xs % 3 ≡ 0
  pub count : CornersFit (corners xs)

-- a table of a told corner count
pub record CountsFit (n : ℕ) (t : List ℕ) : Type 0 where
  pub table : TableFits t
  pub count : CornersFit n

-- a table with its coordinates
pub record CountsFitAt (xs : List ℤ) (t : List ℕ) : Type 0 where
  pub table : TableFits t
  pub coordinates : CoordinatesFit xs
