-- The test of a record at a stage: what it asks of numbers and places alone, and what its answer tells.
use Rattle.std.specs.Prelude.{◌≡◌, List, ℕ, ◌+◌, ◌≤◌, ◌<◌, Option, Some, None}
use Rattle.surface.specs.Limits.{most_rows}
use Rattle.surface.specs.Rows.{Row}
use Rattle.surface.specs.Record.{Record}
use Rattle.growth.specs.InnerLocal.{Local}
use Rattle.record.specs.declared.Corner.{Corner}

-- kept is below removed, removed is below the corner count, and the places are in order and inside the grown table, which has rows for them
pub record InBounds (n m : ℕ) (k : Record) : Type 0 where
  pub lower : k.kept < k.removed
  pub below : k.removed < n
  pub in_order : k.place_1 < k.place_2
  pub inside : k.place_2 < m + 2
  pub room : m + 2 ≤ most_rows

-- the answer on the record k at the stage T: x and y where the local rule holds, none where it does not
unfoldable pub Answered : ℕ → List Row → Record → Option (Corner × Corner) → Type 0
Answered n T k (Some (x, y)) = (l : Local n T k) × (x.0 ≡ l.x) × (y.0 ≡ l.y)
Answered n T k None = ¬ Local n T k
