-- The slots of a corner gathered into a ring, and the corners next to them, its neighbours.
use Rattle.std.specs.Prelude.{◌≡◌, List, map, ℕ, ◌≤◌, ◌<◌, length, get_or, take}
use Rattle.surface.specs.Lists.{◌∈◌, Distinct, Exactly}
use Rattle.spots.specs.InnerHeld.{flat_of, wides}

-- l lists the slots of v in the flat table t, each once
pub record SlotsOf (t : List ℕ) (v : ℕ) (l : List ℕ) : Type 0 where
  pub all : (e : ℕ) → e < length t → get_or t e 0 ≡ v → e ∈ l
  pub only : {e : ℕ} → e ∈ l → (e < length t) × (get_or t e 0 ≡ v)
  pub distinct : Distinct l

-- ring names them by their wide places in h
pub record RingOf (h : List ℕ) (v : ℕ) (ring : List ℕ) : Type 0 where
  pub slots : List ℕ
  pub are : ring ≡ wides slots
  pub lists : SlotsOf (flat_of h) v slots

-- the corners next to the slots of ring
abbrev pub next_to : List ℕ → List ℕ → List ℕ
next_to h ring = map (λ (x : ℕ). get_or h x 0) ring

-- w stands in l, and has the mark stamp
abbrev pub MarkedIn : List ℕ → ℕ → List ℕ → ℕ → Type 0
MarkedIn m stamp l w = (w ∈ l) × (get_or m w 0 ≡ stamp)

-- the first k places of ring name the slots of v, and c of the corners next to them have the mark stamp
pub record WalkedRound (h : List ℕ) (v : ℕ) (mark : List ℕ) (stamp : ℕ) (ring : List ℕ) (k c : ℕ) : Type 0 where
  pub fits : k ≤ length ring
  pub rings : RingOf h v (take k ring)
  pub marked : Exactly (MarkedIn mark stamp (next_to h (take k ring))) c
