-- What the functions below `grow_back` are asked on; inner.
use Rattle.std.specs.Prelude.{List, ℕ, ◌≤◌, length}
use Rattle.surface.specs.InnerStageTable.{StageTable}
use Rattle.record.specs.Front.{front_rows}
use Rattle.growable.specs.Refusals.{room_need}

-- a room in which a stage of m rows stands, with room for all that the log may put in
pub record CanGrow (n m : ℕ) (room log : List ℕ) : Type 0 where
  pub table : StageTable n (front_rows m room)
  pub fits : room_need m log ≤ length room
