-- The search for the least edge that qualifies: what it is asked of, and what it tells.
use Rattle.std.specs.Prelude.{◌≡◌, List, ℕ, ◌≤◌, ◌<◌, ℤ, length, Option, Some, None}
use Rattle.surface.specs.Rows.{Row}
use Rattle.surface.specs.InnerStageTable.{StageTable}
use Rattle.run.specs.Run.{Qualifies, Least, Over}
use Rattle.record.specs.declared.Corner.{Corner}
use Rattle.slots.specs.Chain.{Chained}
use Rattle.least.specs.Inner.{Measurable}

-- the flat table t is a stage over n corners, last and prev are the chains of its slots, and its corners are measured as the limit asks
pub record Searchable (n : ℕ) (t last prev : List ℕ) (bound : Option ℕ) (xs : List ℤ) : Type 0 where
  pub table : StageTable n t
  pub chained : Chained t last prev
  pub room : n ≤ length last
  pub measured : Measurable bound n xs

-- and v is one of the corners
pub record SearchableAt (t last prev : List ℕ) (bound : Option ℕ) (xs : List ℤ) (v : ℕ) : Type 0 where
  pub corners : ℕ
  pub searchable : Searchable corners t last prev bound xs
  pub below : v < corners

-- the search at the corner a: its least edge upward that qualifies, or that none does
abbrev pub FoundAt : (ℕ → ℕ → Type 0) → List Row → ℕ → Option (Corner × Corner) → Type 0
FoundAt P T a None = (b : ℕ) → ¬ Qualifies P T a b
FoundAt P T a (Some (c, b)) = (c.0 ≡ a) × Qualifies P T a b.0 × ((d : ℕ) → Qualifies P T a d → b.0 ≤ d)

-- the search: the least edge that qualifies, or that none does
abbrev pub FoundLeast : (ℕ → ℕ → Type 0) → List Row → Option (Corner × Corner) → Type 0
FoundLeast P T None = Over P T
FoundLeast P T (Some (a, b)) = Least P T a.0 b.0
