-- The run that a thinning which is done comes to, and what its steps keep.
use Rattle.std.specs.Prelude.{◌≡◌, List, ◌++◌, ℕ, ◌+◌, ◌*◌, ◌%◌, ℤ, length, drop, Option, Ok}
use Rattle.surface.specs.Lists.{Exactly}
use Rattle.surface.specs.Rows.{Row, rows}
use Rattle.surface.specs.Table.{Used}
use Rattle.surface.specs.Stage.{Stage}
use Rattle.surface.specs.Record.{Record}
use Rattle.surface.specs.Euler.{Euler}
use Rattle.corners.specs.Skin.{Skin}
use Rattle.faults.specs.Counts.{corners}
use Rattle.run.specs.Run.{Run}
use Rattle.record.specs.Layout.{log_of, room_for}
use Rattle.record.specs.Front.{zeroed}
use Rattle.least.specs.Limited.{Allowed}
use Rattle.thin.specs.Order.{Asked}

-- what was thinned: a skin, and the run, each of whose records is the least edge that qualifies, and that ends where none does; its last stage stands in
-- the table, its records in the log
pub record RunOf (a : Asked) (xs : List ℤ) (t l : List ℕ) (k : ℕ) (t' l' : List ℕ) : Type 0 where
  pub b : Option ℕ
  pub log : List Record
  pub last : List Row
  pub whole : length t % 3 ≡ 0
  pub skin : Skin (corners xs) (rows t) xs
  pub under : a ≡ Ok b
  pub run : Run (Allowed b xs) (rows t) log last
  pub count : k ≡ length log
  pub table : t' ≡ zeroed last t
  pub logged : l' ≡ log_of log ++ drop (room_for (length log)) l

-- what k steps from T, with the records l, leave: a stage of the same Euler number, with 2 k fewer rows and k fewer corners used
pub record KeptAfter (n : ℕ) (T : List Row) (l : List Record) (T₁ : List Row) : Type 0 where
  pub stage : Stage n T₁
  -- the Euler number is there, and the same
  pub χ : ℤ
  pub euler_before : Euler T χ
  pub euler_after : Euler T₁ χ
  pub fewer_rows : length T ≡ length T₁ + 2 * length l
  -- so many corners are used after, and k more before
  pub v : ℕ
  pub used_before : Exactly (Used T) (v + length l)
  pub used_after : Exactly (Used T₁) v
