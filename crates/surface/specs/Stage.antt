-- When a table is a stage.
use Rattle.std.specs.Prelude.{◌≢◌, List, ℕ, ◌≤◌, ◌<◌, length}
use Rattle.surface.specs.Limits.{least_rows, most_rows, least_corners, most_corners}
use Rattle.surface.specs.Lists.{Distinct, Reach}
use Rattle.surface.specs.Rows.{Row}
use Rattle.surface.specs.Table.{Follows, Edge, Used, edges}

-- the rows T over n corners are a stage: all that a skin is, but for the corners that are not used
pub record Stage (n : ℕ) (T : List Row) : Type 0 where
  -- 4 to 1,024 rows, 4 to 514 corners
  pub least : least_rows ≤ length T
  pub most : length T ≤ most_rows
  pub few : least_corners ≤ n
  pub many : n ≤ most_corners
  -- every number in a row is below the corner count, and a row's three numbers differ (rows turn, so this speaks of all three)
  pub below : {v p q : ℕ} → Follows T v p q → v < n
  pub apart : {v p q : ℕ} → Follows T v p q → v ≢ p
  -- each directed edge occurs once, and its reverse occurs
  pub once : Distinct (edges T)
  pub both : {p q : ℕ} → Edge T p q → Edge T q p
  -- the rows round each corner form one ring: following from any neighbour visits all neighbours
  pub ring : {v p q : ℕ} → Edge T v p → Edge T v q → Reach (Follows T v) p q
  -- any used corner is reached from any other by edges
  pub joined : {p q : ℕ} → Used T p → Used T q → Reach (Edge T) p q
