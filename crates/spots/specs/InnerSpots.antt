-- A table whose rows keep their slots when others leave. The three numbers of a row that has left are most_corners, which is no corner's.
use Rattle.std.specs.Prelude.{◌≡◌, List, [], ◌∷◌, map, ℕ, ◌<◌, length, get_or, take}
use Rattle.std.proofs.Math.Logic.{ite}
use Rattle.std.proofs.Math.Decide.{ℕ_discrete}
use Rattle.surface.specs.Limits.{most_corners}
use Rattle.surface.specs.Rows.{Row, row, rows}
use Rattle.surface.specs.Stage.{Stage}
use Rattle.slots.specs.Slot.{next_slot, Whole}

-- the place of a row: a row stands there, or it has left
pub data Spot : Type 0 where
  live : Row → Spot
  dead : Spot

unfoldable pub spot_of : Row → Spot
spot_of (row i j k) = ite {C = Spot} (ℕ_discrete i most_corners) dead (live (row i j k))

-- the rows that still stand
unfoldable pub living : List Spot → List Row
living [] = []
living (live r ∷ S) = r ∷ living S
living (dead ∷ S) = living S

-- those of a flat table
unfoldable pub live_rows : List ℕ → List Row
live_rows t = living (map spot_of (rows t))

-- the place of a spot among the rows that still stand
abbrev pub rank : ℕ → List Spot → ℕ
rank i S = length (living (take i S))

-- a flat table of whole rows, each of which stands or has left; those that stand are a stage over n corners
pub record Slotted (n : ℕ) (t : List ℕ) : Type 0 where
  pub whole : Whole t
  pub clean : (e : ℕ) → e < length t → get_or t e 0 ≡ most_corners → get_or t (next_slot e) 0 ≡ most_corners
  pub stage : Stage n (live_rows t)
