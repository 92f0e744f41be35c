-- What a volume, a change and an exact sum tell, in every case.
use Rattle.std.specs.Prelude.{◌≡◌, false, List, [], ◌∷◌, ℕ, ℤ, pos, Ok, Err, Result}
use Rattle.surface.specs.Rows.{rows}
use Rattle.surface.specs.Stage.{Stage}
use Rattle.corners.specs.Skin.{InRange}
use Rattle.refusal.specs.declared.Refusal.{Refusal}
use Rattle.refusal.specs.First.{First}
use Rattle.refusal.specs.Told.{Told, done, refused}
use Rattle.refusal.specs.Lesser.{either}
use Rattle.refusal.specs.Outcome.{outcome}
use Rattle.faults.specs.Counts.{corners}
use Rattle.faults.specs.Order.{refusals_at, CheckedStageAt}
use Rattle.figure.specs.Sum.{sixfold}
use Rattle.wide.specs.declared.Wide.{Wide}
use Rattle.wide.specs.Wide.{Exact}
use Rattle.wide.specs.Rounding.{figure, change, WithinHalf}
use Rattle.volume.specs.Answer.{told}

-- a volume is asked of one stage with its coordinates: the first of 2, 4 to 8, 10 and 11 that holds, and where none does, the table is a stage
-- and the answer the figure of its exact sum
pub record VolumeReport (xs : List ℤ) (t : List ℕ) (a : Told) : Type 0 where
  pub verdict : Result Unit Refusal
  pub checked : CheckedStageAt xs t verdict
  pub tells : a ≡ outcome verdict (figure (sixfold xs (rows t)) ∷ [])

-- a change is asked of two stages over the same coordinates: the first of those numbers that holds of the one or of the other, and where none
-- does, both are stages and the answer is the later exact sum less the earlier, rounded once
pub record ChangeReport (xs : List ℤ) (earlier later : List ℕ) (a : Told) : Type 0 where
  pub verdict : Result Unit Refusal
  pub first : First (either (refusals_at false xs earlier) (refusals_at false xs later)) verdict
  pub earlier_stage : verdict ≡ Ok tt → Stage (corners xs) (rows earlier)
  pub later_stage : verdict ≡ Ok tt → Stage (corners xs) (rows later)
  pub in_range : verdict ≡ Ok tt → InRange xs
  pub tells : a ≡ outcome verdict (change (sixfold xs (rows earlier)) (sixfold xs (rows later)) ∷ [])

-- an exact sum is asked of one stage with its coordinates, and refused as its volume is; where nothing is refused, the answer is the sum itself,
-- 6,000,000 times the whole part and the rest
pub data ExactReport (xs : List ℤ) (t : List ℕ) (a : Told) : Type 0 where
  unsummed : {r : Refusal} → CheckedStageAt xs t (Err r) → a ≡ refused r → ExactReport xs t a
  summed : {w : Wide} → CheckedStageAt xs t (Ok tt) → Exact (sixfold xs (rows t)) w → a ≡ done (w.whole ∷ pos w.rest ∷ []) → ExactReport xs t a

-- the answer tells 0 and a figure, within half a cubic metre of the exact sum s over 6,000,000
pub record Near (s : ℤ) (a : Result ℤ Refusal) : Type 0 where
  pub f : ℤ
  pub tells : told a ≡ done (f ∷ [])
  pub near : WithinHalf s f
