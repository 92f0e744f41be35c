-- The rows round a corner, found by the neighbour that stands next in them. A slot is kept plus one, so that 0 stands for none.
use Rattle.std.specs.Prelude.{◌≡◌, ◌≢◌, List, ℕ, ◌-◌, ◌≤◌, ◌<◌, length, get_or}
use Rattle.slots.specs.Slot.{next_slot}

-- r is one more than a slot below i that holds a, with p next in its row; 0 where there is none
pub record Noted (t : List ℕ) (a i p r : ℕ) : Type 0 where
  pub upto : r ≤ i
  pub hit : 0 < r → (get_or t (r - 1) 0 ≡ a) × (get_or t (next_slot (r - 1)) 0 ≡ p)
  pub miss : r ≡ 0 → (e : ℕ) → e < i → get_or t e 0 ≡ a → get_or t (next_slot e) 0 ≢ p

-- at has for each corner p the slot of a in the row (a, p, q), of the slots below i
pub record NotedTo (t : List ℕ) (a i : ℕ) (at : List ℕ) : Type 0 where
  pub noted : (p : ℕ) → p < length at → Noted t a i p (get_or at p 0)

-- of all slots
abbrev pub Round : List ℕ → ℕ → List ℕ → Type 0
Round t a at = NotedTo t a (length t) at

-- p is noted
pub record IsNoted (at : List ℕ) (p : ℕ) : Type 0 where
  pub inside : p < length at
  pub noted : get_or at p 0 ≢ 0

-- x and y are two corners, both noted
pub record BothNoted (at : List ℕ) (x y : ℕ) : Type 0 where
  pub differ : x ≢ y
  pub at_x : IsNoted at x
  pub at_y : IsNoted at y
