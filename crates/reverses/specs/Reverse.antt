-- The reverse of a directed edge, by slots, and the way round a corner that reverses give.
use Rattle.std.specs.Prelude.{◌≡◌, List, ℕ, ◌≤◌, ◌<◌, length, get_or}
use Rattle.slots.specs.Slot.{next_slot}

-- the slot f has the reverse of the directed edge at e
pub record Reverse (t : List ℕ) (e f : ℕ) : Type 0 where
  pub inside : f < length t
  pub from : get_or t f 0 ≡ get_or t (next_slot e) 0
  pub to : get_or t (next_slot f) 0 ≡ get_or t e 0

-- reverse has for each slot that of the reverse
pub record Reverses (t reverse : List ℕ) : Type 0 where
  pub room : length t ≤ length reverse
  pub reverses : (e : ℕ) → e < length t → Reverse t e (get_or reverse e 0)

-- the slot whose row follows that of e round the corner at e: the reverse of the edge that closes the row
unfoldable pub onward_slot : List ℕ → ℕ → ℕ
onward_slot reverse e = get_or reverse (next_slot (next_slot e)) 0

-- the slot f comes next after e round their corner: its row begins with the corner that closes the row of e
pub record Onward (t : List ℕ) (e f : ℕ) : Type 0 where
  pub inside : f < length t
  pub same : get_or t f 0 ≡ get_or t e 0
  pub third : get_or t (next_slot f) 0 ≡ get_or t (next_slot (next_slot e)) 0
