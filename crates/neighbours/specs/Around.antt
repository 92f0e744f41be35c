-- The neighbours of a corner, as lists of corner numbers, and the marks of such a list.
use Rattle.std.specs.Prelude.{◌≢◌, List, ℕ, ◌≤◌, ◌<◌, length, get_or, take}
use Rattle.surface.specs.Limits.{most_corners}
use Rattle.surface.specs.Lists.{◌∈◌, Distinct}
use Rattle.surface.specs.Rows.{Row}
use Rattle.surface.specs.Table.{Edge}
use Rattle.surface.specs.InnerStageTable.{StageTable}
use Rattle.slots.specs.Chain.{Chained}
use Rattle.slots.specs.Marks.{Blank}

-- the flat table t is a stage, and last and prev are the chains of its slots
pub record Charted (t last prev : List ℕ) : Type 0 where
  pub corners : ℕ
  pub table : StageTable corners t
  pub chained : Chained t last prev

-- the corners of the link of v are its neighbours; l lists them, each once
pub record Neighbours (T : List Row) (v : ℕ) (l : List ℕ) : Type 0 where
  pub distinct : Distinct l
  pub all : {w : ℕ} → Edge T v w → w ∈ l
  pub only : {w : ℕ} → w ∈ l → Edge T v w

-- the first k numbers of ring list them
pub record Gathered (T : List Row) (v : ℕ) (ring : List ℕ) (k : ℕ) : Type 0 where
  pub fits : k ≤ length ring
  pub lists : Neighbours T v (take k ring)

-- every number of l is one that a corner may have
abbrev pub CornerNumbers : List ℕ → Type 0
CornerNumbers l = (w : ℕ) → w ∈ l → w < most_corners

-- m marks the numbers of l and no others
pub record Marked (l m : List ℕ) : Type 0 where
  pub corners : CornerNumbers l
  pub room : most_corners ≤ length m
  pub all : {w : ℕ} → w ∈ l → get_or m w 0 ≢ 0
  pub only : {w : ℕ} → get_or m w 0 ≢ 0 → w ∈ l

-- m marks none, and has room for a mark of each number that a corner may have: scratch as it is lent, and as it comes back
pub record Unmarked (m : List ℕ) : Type 0 where
  pub room : most_corners ≤ length m
  pub blank : Blank m
