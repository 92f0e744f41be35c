-- A stage as the code holds it, in a flat table.
use Rattle.std.specs.Prelude.{◌≡◌, List, ℕ, ◌*◌, length}
use Rattle.surface.specs.Rows.{rows}
use Rattle.surface.specs.Stage.{Stage}

-- the flat table t, with no number over, is a stage
pub record StageTable (n : ℕ) (t : List ℕ) : Type 0 where
  pub count : length t ≡ 3 * length (rows t)
  pub stage : Stage n (rows t)
