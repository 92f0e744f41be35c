-- "That the whole stored table follows this rule and is closed is shown once": what holds of the table whose numbers are answered place by place.
use Rattle.std.specs.Prelude.{◌≡◌, ◌⊎◌, List, [], ◌∷◌, ℕ, ◌+◌, ◌*◌, ◌≤◌, ◌<◌, pos, length, get_or, Option}
use Rattle.surface.specs.Lists.{◌∈◌}
use Rattle.surface.specs.Rows.{Row, row, rows}
use Rattle.surface.specs.Table.{Used}
use Rattle.surface.specs.Stage.{Stage}
use Rattle.surface.specs.Euler.{Euler}
use Rattle.refusal.specs.Told.{done}
use Rattle.ring.specs.Answer.{told}
use Rattle.ring.specs.Ring.{corner, size, AnswerAt}

-- ((r,c), (r+1,c), (r+1,c+1)) and ((r,c), (r+1,c+1), (r,c+1))
abbrev pub first_row : ℕ → ℕ → Row
first_row r c = row (corner r c) (corner (r + 1) c) (corner (r + 1) (c + 1))

abbrev pub second_row : ℕ → ℕ → Row
second_row r c = row (corner r c) (corner (r + 1) (c + 1)) (corner r (c + 1))

-- r and c are those of a corner of the 8 by 8 torus
abbrev pub OnGrid : ℕ → ℕ → Type 0
OnGrid r c = (r < 8) × (c < 8)

-- the table l follows the rule, is closed, and has the Euler number 0
pub record Torus (l : List ℕ) : Type 0 where
  pub numbers : length l ≡ size
  -- in order of its number, each corner gives two rows
  pub first : (r c : ℕ) → OnGrid r c → (d : Row) → get_or (rows l) (2 * corner r c) d ≡ first_row r c
  pub second : (r c : ℕ) → OnGrid r c → (d : Row) → get_or (rows l) (2 * corner r c + 1) d ≡ second_row r c
  -- and each row is one of these
  pub each : {z : Row} → z ∈ rows l → (r : ℕ) × (c : ℕ) × OnGrid r c × ((z ≡ first_row r c) ⊎ (z ≡ second_row r c))
  -- closed: a stage, over 64 corners that are all used
  pub stage : Stage 64 (rows l)
  pub used : {v : ℕ} → v < 64 → Used (rows l) v
  pub euler : Euler (rows l) (pos 0)

-- the answers tell the numbers of l, place by place, and nothing past them
pub record AnsweredBy (answers : ℕ → Option ℕ) (l : List ℕ) : Type 0 where
  pub inside : (k : ℕ) → k < length l → told (answers k) ≡ done (pos (get_or l k 0) ∷ [])
  pub past : (k : ℕ) → length l ≤ k → told (answers k) ≡ done []

-- whatever answers each place as `trial_number`'s contract says answers the numbers of one table, and that is the torus of the rule
pub record TrialRing : Type 0 where
  pub answered : (answers : ℕ → Option ℕ) → ((k : ℕ) → AnswerAt k (answers k)) → (l : List ℕ) × AnsweredBy answers l × Torus l
