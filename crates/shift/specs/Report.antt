-- What a shift report tells, in every case.
use Rattle.std.specs.Prelude.{◌≡◌, List, [], ◌∷◌, ℕ, ◌*◌, ◌≤◌, ℤ, pos, Result}
use Rattle.refusal.specs.declared.Refusal.{Refusal}
use Rattle.refusal.specs.First.{First}
use Rattle.refusal.specs.Told.{Told, done}
use Rattle.refusal.specs.Outcome.{outcome}
use Rattle.record.specs.Layout.{records}
use Rattle.distance.specs.Corners.{squared_distance_lem}
use Rattle.shift.specs.declared.Shifted.{Shifted}
use Rattle.shift.specs.Answer.{told}
use Rattle.standin.specs.StandIn.{stand_in, moves}
use Rattle.shift.specs.Order.{shift_refusals}

-- the shift report gives stand-in, count and squared distance
unfoldable pub shift_of : List ℤ → List ℕ → ℕ → List ℤ
shift_of xs log v = pos (stand_in v (records log)) ∷ pos (moves v (records log)) ∷ pos (squared_distance_lem xs v (stand_in v (records log))) ∷ []

-- the first of 2, 4 and 5 that holds, and where none does, stand-in, count and squared distance
pub record ShiftReport (xs : List ℤ) (log : List ℕ) (v : ℕ) (a : Told) : Type 0 where
  pub verdict : Result Unit Refusal
  pub first : First (shift_refusals xs log v) verdict
  pub tells : a ≡ outcome verdict (shift_of xs log v)

-- the answer tells 0, a stand-in, a count k and a squared distance, which is at most k x k x L x L
pub record Bounded (L : ℕ) (a : Result Shifted Refusal) : Type 0 where
  pub corner : ℕ
  pub k : ℕ
  pub squared : ℕ
  pub tells : told a ≡ done (pos corner ∷ pos k ∷ pos squared ∷ [])
  pub bound : squared ≤ k * k * L * L
