-- When a record is accepted for growing back, in the words of the scope.
use Rattle.std.specs.Prelude.{List, reverse, ℕ, ◌<◌}
use Rattle.follow.specs.Leads.{Leads}
use Rattle.surface.specs.Rows.{Row}
use Rattle.surface.specs.Table.{Used}
use Rattle.surface.specs.Stage.{Stage}
use Rattle.surface.specs.Record.{Record, Replays}
use Rattle.growth.specs.Grow.{Grows}

-- kept is below removed, removed is below the corner count and unused, the grown table is a stage, its edge meets the link condition, and
-- contracting it gives the present table and this record: the record is one that replays from the grown table to the present one
pub record Accepted (n : ℕ) (T' : List Row) (k : Record) (T : List Row) : Type 0 where
  pub below : k.removed < n
  pub unused : ¬ Used T' k.removed
  pub grows : Grows T' k T
  pub stage : Stage n T
  pub replays : Replays T k T'

-- a log grown back from T' to T, last record first
abbrev pub GrownBack : ℕ → List Row → List Record → List Row → Type 0
GrownBack n T' l T = Leads (Accepted n) T' (reverse l) T
