-- The local rule by which the code tells whether a record is undone; inner.
use Rattle.std.specs.Prelude.{List, ℕ}
use Rattle.surface.specs.Rows.{Row, row, Turned}
use Rattle.surface.specs.Table.{Edge}
use Rattle.flips.specs.Flip.{Stands, Flip}

-- what the flip wrote stands at the record's places, as it is stored; the old rows may be turned in any way; and a and b are no neighbours
pub record Undoable (T' : List Row) (k : Flip) : Type 0 where
  pub a : ℕ
  pub b : ℕ
  pub c : ℕ
  pub d : ℕ
  pub turned_1 : Turned k.row_1 a b c
  pub turned_2 : Turned k.row_2 b a d
  pub stands_1 : Stands T' k.place_1 (row c a d)
  pub stands_2 : Stands T' k.place_2 (row c d b)
  pub no_edge : ¬ Edge T' a b
