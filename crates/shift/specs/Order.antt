-- 01's table of refusals for a shift, line by line: 2, 4 and 5 only.
use Rattle.std.specs.Prelude.{◌⊎◌, List, [], ◌∷◌, ℕ, ◌≤◌, ℤ}
use Rattle.surface.specs.Lists.{◌∈◌}
use Rattle.surface.specs.Record.{Record}
use Rattle.refusal.specs.declared.Refusal.TheVariants.{CountsOutside, CoordinateOutOfRange, NumberNotBelow}
use Rattle.refusal.specs.First.{Refusals, ◌when◌}
use Rattle.record.specs.Layout.{records, WholeRecords}
use Rattle.faults.specs.Counts.{CoordinatesFit, corners}
use Rattle.faults.specs.Words.{OutOfRange}

-- 2: counts and lengths of the coordinates, and a log that is a multiple of 10
pub record ShiftFits (xs : List ℤ) (log : List ℕ) : Type 0 where
  pub coordinates : CoordinatesFit xs
  pub whole : WholeRecords log

-- 5, of a log: a number kept or removed is not below the count
pub data PastIn (n : ℕ) (l : List Record) : Type 0 where
  kept_past : {k : Record} → k ∈ l → n ≤ k.kept → PastIn n l
  removed_past : {k : Record} → k ∈ l → n ≤ k.removed → PastIn n l

-- 5: a corner number not below the count, that of the corner asked about or a log number kept or removed
abbrev pub Past : ℕ → List Record → ℕ → Type 0
Past n l v = (n ≤ v) ⊎ PastIn n l

-- the shift report refuses by 2, 4 and 5 only
unfoldable pub shift_refusals : List ℤ → List ℕ → ℕ → Refusals
shift_refusals xs log v =
    (CountsOutside when (¬ ShiftFits xs log)) ∷ (CoordinateOutOfRange when OutOfRange xs) ∷ (NumberNotBelow when Past (corners xs) (records log) v) ∷ []
