-- An engine: what it is asked for, and what it leaves. Either engine states this, for its own order.
use Rattle.std.specs.Prelude.{◌≡◌, List, ◌++◌, ℕ, ◌+◌, ◌*◌, ◌≤◌, length, take, drop}
use Rattle.surface.specs.Limits.{least_corners}
use Rattle.surface.specs.Lists.{Exactly}
use Rattle.surface.specs.Rows.{Row, rows}
use Rattle.surface.specs.Table.{Used}
use Rattle.surface.specs.InnerStageTable.{StageTable}
use Rattle.surface.specs.Record as surface
use Rattle.run.specs.Run.{Run}
use Rattle.record.specs.Layout.{log_of, room_for}
use Rattle.record.specs.Front.{front_rows, lowered}

-- the front of t is a stage over n corners, and the log l, which has d records, has room for as many as may follow: one for each used
-- corner but four
pub record CanGoOn (n : ℕ) (t : List ℕ) (r : ℕ) (l : List ℕ) (d : ℕ) : Type 0 where
  pub inside : 3 * r ≤ length t
  pub table : StageTable n (front_rows r t)
  pub stand : room_for d ≤ length l
  pub room : (v : ℕ) → Exactly (Used (rows (front_rows r t))) v → room_for (d + v) ≤ length l + room_for least_corners

-- what a run R from the front of t leaves: its last stage in front, zeros to where the first one ended, what lies past that as it was; its
-- records in the log after the d that stood there, what lies past them as it was; k records in all
pub record WentBy (R : List Row → List surface.Record → List Row → Type 0) (t : List ℕ) (r : ℕ) (l : List ℕ) (d : ℕ) (k : ℕ) (t' l' : List ℕ) : Type 0 where
  pub log : List surface.Record
  pub last : List Row
  pub run : R (rows (front_rows r t)) log last
  pub count : k ≡ d + length log
  pub table : t' ≡ lowered r last t
  pub logged : l' ≡ take (room_for d) l ++ (log_of log ++ drop (room_for k) l)

-- the run under the limit P
abbrev pub WentOn : (ℕ → ℕ → Type 0) → List ℕ → ℕ → List ℕ → ℕ → ℕ → List ℕ → List ℕ → Type 0
WentOn P = WentBy (Run P)
