-- What the rows of a stage give of its flat table.
use mathlib.Core.Path.{◌≡◌}
use mathlib.Core.List.{List}
use Prim.Native.Nat.{ℕ, ◌≤◌, ◌%◌}
use native.Mathlib.Omega.{arith}
use lib.ListN.{length}
use Rattle.surface.specs.Limits.{most_rows}
use Rattle.surface.specs.Rows.{rows}
use Rattle.surface.specs.Stage.{Stage}
use Rattle.surface.specs.InnerStageTable.{StageTable}
use Rattle.slots.specs.Slot.{Whole, Under}
use Rattle.slots.proofs.Slots.{whole_rows, at_follows}

module _ (t : List ℕ) (threes : length t % 3 ≡ 0) where
  pub whole_of : length (rows t) ≤ most_rows → Whole t
  whole_of h = let e = whole_rows t threes in record { threes = threes; most = omega arith }

  pub stage_whole : {n : ℕ} → Stage n (rows t) → Whole t
  stage_whole s = whole_of s.most

  pub stage_under : {n : ℕ} → Stage n (rows t) → Under t n
  stage_under s = record { under = λ e h. s.below (at_follows t threes e h) }

-- a stage's table is made of whole rows, and its numbers are below the corner count
module _ {n : ℕ} {t : List ℕ} (w : StageTable n t) where
  threes_of : length t % 3 ≡ 0
  threes_of = let e = w.count in omega arith

  pub table_whole : Whole t
  table_whole = stage_whole t threes_of w.stage

  pub table_under : Under t n
  table_under = stage_under t threes_of w.stage
