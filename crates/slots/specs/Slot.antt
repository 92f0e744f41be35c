-- A slot is where one number of a flat table stands: row i has the slots 3 i, 3 i + 1 and 3 i + 2.
-- The slot e is the directed edge from its number to that of the next slot; the slot after that has the row's third number.
use Rattle.std.specs.Prelude.{◌≡◌, cond, List, ℕ, ◌+◌, ◌-◌, ◌*◌, ◌≤◌, ◌<◌, ◌%◌, eqb, length, get_or}
use Rattle.surface.specs.Limits.{most_rows}

-- the next slot in the same row; the first follows the third
unfoldable pub next_slot : ℕ → ℕ
next_slot e = cond (eqb (e % 3) 2) (e - 2) (e + 1)

-- the slots of as many rows as there may be
abbrev pub most_slots : ℕ
most_slots = 3 * most_rows

-- a flat table of whole rows, of which there are at most as many as there may be
pub record Whole (t : List ℕ) : Type 0 where
  pub threes : length t % 3 ≡ 0
  pub most : length t ≤ most_slots

-- every number is below n
pub record Under (t : List ℕ) (n : ℕ) : Type 0 where
  pub under : (e : ℕ) → e < length t → get_or t e 0 < n

-- q follows p round v at the slot e
pub record At (t : List ℕ) (v p q : ℕ) : Type 0 where
  pub e : ℕ
  pub inside : e < length t
  pub is_v : get_or t e 0 ≡ v
  pub is_p : get_or t (next_slot e) 0 ≡ p
  pub is_q : get_or t (next_slot (next_slot e)) 0 ≡ q
