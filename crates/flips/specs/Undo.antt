-- The undoing of a flip's record.
use Rattle.std.specs.Prelude.{◌≡◌, List, ℕ, set}
use Rattle.surface.specs.Rows.{Row}
use Rattle.surface.specs.Stage.{Stage}
use Rattle.flips.specs.Flip.{Flip, Flips}

-- the two rows of a record put back at their places
abbrev pub put_rows_lem : Flip → List Row → List Row
put_rows_lem k T = set (set T k.place_2 k.row_2) k.place_1 k.row_1

-- putting the two rows back gives a stage whose flip is allowed and writes the present table T' and this record
pub record Undone (n : ℕ) (T' : List Row) (k : Flip) (T : List Row) : Type 0 where
  pub is : T ≡ put_rows_lem k T'
  pub stage : Stage n T
  pub a : ℕ
  pub b : ℕ
  pub flips : Flips T a b k T'
