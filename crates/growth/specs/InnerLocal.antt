-- The local rule for accepting a record, which looks round the kept corner alone. The code tests it; on a stage it is the scope's rule.
use Rattle.std.specs.Prelude.{◌≢◌, List, ℕ, ◌+◌, ◌≤◌, ◌<◌, length}
use Rattle.surface.specs.Limits.{most_rows}
use Rattle.surface.specs.Rows.{Row}
use Rattle.surface.specs.Table.{Edge, Used}
use Rattle.surface.specs.Record.{Record}
use Rattle.growth.specs.Grow.{Ends}

-- the local rule: x and y are two neighbours of the kept corner
pub record Local (n : ℕ) (T' : List Row) (k : Record) : Type 0 where
  pub lower : k.kept < k.removed
  pub below : k.removed < n
  pub unused : ¬ Used T' k.removed
  pub in_order : k.place_1 < k.place_2
  pub inside : k.place_2 < length T' + 2
  pub room : length T' + 2 ≤ most_rows
  pub x : ℕ
  pub y : ℕ
  pub ends : Ends k.kept k.removed k.row_1 k.row_2 x y
  pub differ : x ≢ y
  pub at_x : Edge T' k.kept x
  pub at_y : Edge T' k.kept y
