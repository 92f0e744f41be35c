-- 01's table of refusals for what a check is given, line by line, and what passing gives. 3 is the caller's: it stands between 2 and 4.
use Rattle.std.specs.Prelude.{◌≡◌, Bool, true, false, List, [], ◌∷◌, ◌++◌, ℕ, ℤ, Ok, Result}
use Rattle.surface.specs.Rows.{Row, rows}
use Rattle.surface.specs.Stage.{Stage}
use Rattle.corners.specs.Skin.{InRange}
use Rattle.refusal.specs.declared.Refusal.{Refusal}
use Rattle.refusal.specs.declared.Refusal.TheVariants.{CountsOutside, CoordinateOutOfRange, NumberNotBelow, NumberTwice, EdgeTwice, ReverseMissing, CornerUnused, RingsMany, NotConnected}
use Rattle.refusal.specs.First.{Clause, ◌when◌, First, Refusals}
use Rattle.faults.specs.Counts.{CountsFitAt, corners}
use Rattle.faults.specs.Words.{OutOfRange, NotBelow, TwiceInRow, EdgeRepeats, NoReverse, Unused, ManyRings, Parted}

-- a line that is asked of first tables only
abbrev pub only : Bool → Clause Refusal → Refusals
only true c = c ∷ []
only false c = []

-- 10 and 11, of rows
abbrev pub ring_refusals : List Row → Refusals
ring_refusals T = (RingsMany when ManyRings T) ∷ (NotConnected when Parted T) ∷ []

-- 5 to 11, of rows over n corners; first: whether they are a first table, which has to use every corner
unfoldable pub row_refusals : Bool → ℕ → List Row → Refusals
row_refusals first n T =
    (NumberNotBelow when NotBelow n T)
    ∷ (NumberTwice when TwiceInRow T)
    ∷ (EdgeTwice when EdgeRepeats T)
    ∷ (ReverseMissing when NoReverse T)
    ∷ only first (CornerUnused when Unused n T)
    ++ ring_refusals T

-- 4 to 11, of a table with its coordinates
unfoldable pub refusals_after_counts : Bool → List ℤ → List ℕ → Refusals
refusals_after_counts first xs t = (CoordinateOutOfRange when OutOfRange xs) ∷ row_refusals first (corners xs) (rows t)

-- 2 and 4 to 11, of a table with its coordinates
unfoldable pub refusals_at : Bool → List ℤ → List ℕ → Refusals
refusals_at first xs t = (CountsOutside when (¬ CountsFitAt xs t)) ∷ refusals_after_counts first xs t

-- the verdict on a stage's table with its coordinates: the first that holds, and where none does, a stage, with coordinates in range
pub record CheckedStageAt (xs : List ℤ) (t : List ℕ) (v : Result Unit Refusal) : Type 0 where
  pub holds : First (refusals_at false xs t) v
  pub fits : v ≡ Ok tt → CountsFitAt xs t
  pub stage : v ≡ Ok tt → Stage (corners xs) (rows t)
  pub in_range : v ≡ Ok tt → InRange xs
