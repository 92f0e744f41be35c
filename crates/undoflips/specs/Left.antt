-- What undoing the records of a flip log leaves: a stage with the same corners and Euler number.
use Rattle.std.specs.Prelude.{◌≡◌, List, reverse, ℕ, ◌≤◌, length, take}
use Rattle.follow.specs.Leads.{Leads}
use Rattle.surface.specs.Rows.{rows}
use Rattle.flips.specs.Undo.{Undone}
use Rattle.laid.specs.Laid.{count, items}
use Rattle.fliplog.specs.Layout.{flip_log}
use Rattle.flips.specs.Kept.{StageKept}

-- what k records undone leave in the table t
pub record UndoneLeft (n : ℕ) (t log : List ℕ) (k : ℕ) (t' : List ℕ) : Type 0 where
  pub logged : k ≤ count flip_log log
  -- the last k records are undone, the last first, which leads from t to t'
  pub undone : Leads (Undone n) (rows t) (take k (reverse (items flip_log log))) (rows t')
  pub same_table : length t' ≡ length t
  pub kept : StageKept n (rows t) (rows t')
