-- When growing back is refused before any record is done.
use Rattle.std.specs.Prelude.{false, List, ◌∷◌, ℕ, ◌+◌, ◌*◌, ◌≤◌, ◌<◌, length}
use Rattle.surface.specs.Limits.{most_rows}
use Rattle.refusal.specs.declared.Refusal.TheVariants.{CountsOutside, RoomShort}
use Rattle.refusal.specs.First.{Refusals, ◌when◌}
use Rattle.faults.specs.Counts.{RowsFit, CornersFit}
use Rattle.faults.specs.Order.{row_refusals}
use Rattle.record.specs.Layout.{count, WholeRecords}
use Rattle.record.specs.Front.{standing}

-- not 2: the rows told and the corner count are within their limits, the log is a multiple of 10, and the rows would not pass 1,024
pub record GrowFits (n m : ℕ) (log : List ℕ) : Type 0 where
  pub rows : RowsFit m
  pub corners : CornersFit n
  pub whole : WholeRecords log
  pub most : m + 2 * count log ≤ most_rows

-- growing back needs 3 x (rows + 2k) numbers
abbrev pub room_need : ℕ → List ℕ → ℕ
room_need m log = 3 * (m + 2 * count log)

-- 2, 3, then 5 to 11 of the rows that stand in the room
unfoldable pub grow_refusals : ℕ → ℕ → List ℕ → List ℕ → Refusals
grow_refusals n m room log =
    (CountsOutside when (¬ GrowFits n m log))
    ∷ (RoomShort when (length room < room_need m log))
    ∷ row_refusals false n (standing m room)
