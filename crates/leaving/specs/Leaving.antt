-- The rows of a flat table that leave, and their record; what a step is asked for.
use Rattle.std.specs.Prelude.{◌≡◌, List, ℕ, ◌+◌, ◌*◌, ◌≤◌, ◌<◌, length, get_or}
use Rattle.surface.specs.Rows.{Row, row, rows}
use Rattle.surface.specs.InnerStageTable.{StageTable}
use Rattle.surface.specs.Link.{Meets}
use Rattle.surface.specs.Contract.{Stays}
use Rattle.surface.specs.Record.{leaving, placed}
use Rattle.record.specs.declared.Leaving.{Leaving}
use Rattle.record.specs.declared.Record.{Record}
use Rattle.record.specs.Meant.{meant}

-- the flat table t is a stage, and the edge from a up to b may be contracted
pub record MayStep (t : List ℕ) (a b : ℕ) : Type 0 where
  pub corners : ℕ
  pub table : StageTable corners t
  pub rises : a < b
  pub meets : Meets (rows t) a b

-- the row at place p of a flat table
abbrev pub row_at : List ℕ → ℕ → Row
row_at t p = row (get_or t (3 * p) 0) (get_or t (3 * p + 1) 0) (get_or t (3 * p + 2) 0)

-- some row from place i on leaves
pub record SomeLeaves (a b : ℕ) (t : List ℕ) (i : ℕ) : Type 0 where
  pub place : ℕ
  pub from : i ≤ place
  pub inside : 3 * place + 3 ≤ length t
  pub leaves : ¬ Stays a b (row_at t place)

-- the first row from place i on that leaves stands at r's place, with r's numbers
pub record NextLeaving (a b : ℕ) (t : List ℕ) (i : ℕ) (r : Leaving) : Type 0 where
  pub from : i ≤ r.place.0
  pub inside : 3 * r.place.0 + 3 ≤ length t
  pub stands : row r.a.0 r.b.0 r.c.0 ≡ row_at t r.place.0
  pub leaves : ¬ Stays a b (row_at t r.place.0)
  pub passed : (p : ℕ) → i ≤ p → p < r.place.0 → Stays a b (row_at t p)

-- r is the record of contracting the edge from a up to b in t
pub record Recorded (t : List ℕ) (a b : ℕ) (r : Record) : Type 0 where
  pub kept_is : r.kept.0 ≡ a
  pub removed_is : r.removed.0 ≡ b
  pub record_is : leaving a b (rows t) ≡ placed (meant r)
