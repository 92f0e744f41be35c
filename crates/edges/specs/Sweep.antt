-- One sweep over the corners: the directed edges from a corner are put down by where they end, and each is then found from its reverse.
use Rattle.std.specs.Prelude.{◌≡◌, ◌≢◌, ◌⊎◌, List, ℕ, ◌+◌, ◌-◌, ◌≤◌, ◌<◌, length, get_or}
use Rattle.slots.specs.Slot.{next_slot}

-- r is one more than the last slot with the directed edge u to w; 0 where there is none
pub record Found (t : List ℕ) (u w r : ℕ) : Type 0 where
  pub upto : r ≤ length t
  pub from : 0 < r → get_or t (r - 1) 0 ≡ u
  pub to : 0 < r → get_or t (next_slot (r - 1)) 0 ≡ w
  pub miss : (e : ℕ) → r ≤ e → e < length t → get_or t e 0 ≡ u → get_or t (next_slot e) 0 ≢ w

-- the sweep has passed the slot e: its corner is below u, or is u, and the slot is not below x
abbrev pub Swept : List ℕ → ℕ → ℕ → ℕ → Type 0
Swept t u x e = (get_or t e 0 < u) ⊎ ((get_or t e 0 ≡ u) × (x ≤ e))

-- r is y where y stands for a slot of u, else 0
pub record Picked (t : List ℕ) (y u r : ℕ) : Type 0 where
  pub same : 0 < r → r ≡ y
  pub hit : 0 < r → get_or t (y - 1) 0 ≡ u
  pub miss : r ≡ 0 → 0 < y → get_or t (y - 1) 0 ≢ u

-- ends has for a corner w one more than a slot whose directed edge ends at w, or 0: slots of corners below u, and of u from x on
pub record Entries (t ends : List ℕ) (u x : ℕ) : Type 0 where
  pub upto : (w : ℕ) → get_or ends w 0 ≤ length t
  pub to : (w : ℕ) → 0 < get_or ends w 0 → get_or t (next_slot (get_or ends w 0 - 1)) 0 ≡ w
  pub who : (w : ℕ) → 0 < get_or ends w 0 → Swept t u x (get_or ends w 0 - 1)

-- every slot of u from x on stands in ends
pub record Entered (t ends : List ℕ) (u x : ℕ) : Type 0 where
  pub entered : (e : ℕ) → x ≤ e → e < length t → get_or t e 0 ≡ u → get_or ends (get_or t (next_slot e) 0) 0 ≡ e + 1

-- found are the reverses of the directed edges to corners below u, and to u from its slots from x on
pub record FoundTo (t reverse : List ℕ) (u x : ℕ) : Type 0 where
  pub room : length t ≤ length reverse
  pub found : (k : ℕ) → k < length t → Swept t u x (next_slot k) →
      Found t (get_or t (next_slot k) 0) (get_or t k 0) (get_or reverse k 0)
