-- The walk round the kept corner from y forward to x: what it is asked on, and what it makes of the rows.
use Rattle.std.specs.Prelude.{List, ℕ, ◌≤◌, length}
use Rattle.surface.specs.Rows.{rows}
use Rattle.surface.specs.Table.{Edge}
use Rattle.surface.specs.InnerStageTable.{StageTable}
use Rattle.growth.specs.Grow.{RowRegrown, Each}
use Rattle.noted.specs.Noted.{Round}

-- t is a stage, at has its rows round a, and x and y are neighbours of a
pub record Walkable (t at : List ℕ) (a x y : ℕ) : Type 0 where
  pub corners : ℕ
  pub table : StageTable corners t
  pub fits : corners ≤ length at
  pub round : Round t a at
  pub at_x : Edge (rows t) a x
  pub at_y : Edge (rows t) a y

-- each row is as it was, or b has taken a's place on it: on those from y forward to x round a
abbrev pub Renamed : ℕ → ℕ → ℕ → ℕ → List ℕ → List ℕ → Type 0
Renamed a b x y t' t = Each (RowRegrown (rows t') a b x y) (rows t') (rows t)
