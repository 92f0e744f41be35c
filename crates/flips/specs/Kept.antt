-- What a flip keeps, and so does undoing one.
use Rattle.std.specs.Prelude.{◌≡◌, ◌↔◌, List, ℕ, ℤ, length}
use Rattle.surface.specs.Rows.{Row}
use Rattle.surface.specs.Table.{Used}
use Rattle.surface.specs.Stage.{Stage}
use Rattle.surface.specs.Euler.{Euler}

-- "a closed oriented skin with the same corners and Euler number": a stage before and after, of as many rows
pub record StageKept (n : ℕ) (T T' : List Row) : Type 0 where
  pub before : Stage n T
  pub after : Stage n T'
  pub size : length T' ≡ length T
  pub used : {v : ℕ} → Used T v ↔ Used T' v
  -- the Euler number is there, and the same
  pub χ : ℤ
  pub euler_before : Euler T χ
  pub euler_after : Euler T' χ
