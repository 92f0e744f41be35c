-- What inner functions are asked on and give: no public contract names it.
use Rattle.std.specs.Prelude.{◌≡◌, Bool, true, false, List, ◌∷◌, ℕ, ℤ, Ok, Result}
use Rattle.refusal.specs.declared.Refusal.{Refusal}
use Rattle.surface.specs.Rows.{Row, rows}
use Rattle.surface.specs.Stage.{Stage}
use Rattle.corners.specs.Skin.{InRange, Skin}
use Rattle.refusal.specs.declared.Refusal.TheVariants.{CountsOutside}
use Rattle.refusal.specs.First.{◌when◌, First, Refusals}
use Rattle.faults.specs.Counts.{CountsFit, CountsFitAt, corners}
use Rattle.faults.specs.Words.{AllUsed}
use Rattle.faults.specs.Order.{row_refusals, refusals_at}

-- 2 and 5 to 11, of a stage's table with a told corner count
unfoldable pub stage_refusals : ℕ → List ℕ → Refusals
stage_refusals n t = (CountsOutside when (¬ CountsFit n t)) ∷ row_refusals false n (rows t)

-- the verdict on rows over n corners: the first that holds, and where none does, a stage, that uses every corner if it is a first table
pub record CheckedRows (first : Bool) (n : ℕ) (T : List Row) (v : Result Unit Refusal) : Type 0 where
  pub holds : First (row_refusals first n T) v
  pub stage : v ≡ Ok tt → Stage n T
  pub used : v ≡ Ok tt → first ≡ true → AllUsed n T

-- the same of a table with its coordinates
pub record CheckedAt (first : Bool) (xs : List ℤ) (t : List ℕ) (v : Result Unit Refusal) : Type 0 where
  pub holds : First (refusals_at first xs t) v
  pub fits : v ≡ Ok tt → CountsFitAt xs t
  pub stage : v ≡ Ok tt → Stage (corners xs) (rows t)
  pub in_range : v ≡ Ok tt → InRange xs
  pub used : v ≡ Ok tt → first ≡ true → AllUsed (corners xs) (rows t)

-- the verdict on a first table with its coordinates: the first that holds, and where none does, a skin
pub record CheckedFirst (xs : List ℤ) (t : List ℕ) (v : Result Unit Refusal) : Type 0 where
  pub holds : First (refusals_at true xs t) v
  pub fits : v ≡ Ok tt → CountsFitAt xs t
  pub skin : v ≡ Ok tt → Skin (corners xs) (rows t) xs

-- the verdict on a stage's table of a told corner count: the first that holds, and where none does, a stage
pub record CheckedStage (n : ℕ) (t : List ℕ) (v : Result Unit Refusal) : Type 0 where
  pub holds : First (stage_refusals n t) v
  pub fits : v ≡ Ok tt → CountsFit n t
  pub stage : v ≡ Ok tt → Stage n (rows t)
