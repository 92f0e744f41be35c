-- A table held four places a row: the row's second number, its third, its first, and a place that says nothing. So the number after a slot of
-- the flat table stands where the slot has its wide place, and a corner's slots name its neighbours without a look round the row.
use Rattle.std.specs.Prelude.{◌≡◌, List, [], ◌∷◌, map, ℕ, ◌+◌, ◌-◌, ◌/◌, ◌%◌, length}
use Rattle.surface.specs.Rows.{Row}
use Rattle.slots.specs.Slot.{next_slot}
use Rattle.spots.specs.InnerSpots.{live_rows, Slotted}

-- the flat table that h holds
unfoldable pub flat_of : List ℕ → List ℕ
flat_of [] = []
flat_of (j ∷ []) = []
flat_of (j ∷ k ∷ []) = []
flat_of (j ∷ k ∷ i ∷ []) = []
flat_of (j ∷ k ∷ i ∷ x ∷ h) = i ∷ j ∷ k ∷ flat_of h

-- the wide place of a slot
abbrev pub wide : ℕ → ℕ
wide e = e + e / 3

-- where the number of the slot e itself stands: the third slot of the row is two on
abbrev pub own : ℕ → ℕ
own e = wide (next_slot (next_slot e))

-- the rows of h that still stand
abbrev pub held_rows : List ℕ → List Row
held_rows h = live_rows (flat_of h)

-- h holds whole rows, each of which stands or has left; those that stand are a stage over n corners
pub record HoldsStage (n : ℕ) (h : List ℕ) : Type 0 where
  pub fours : length h % 4 ≡ 0
  pub slotted : Slotted n (flat_of h)

-- over however many corners
pub record HoldsSomeStage (h : List ℕ) : Type 0 where
  pub corners : ℕ
  pub held : HoldsStage corners h

-- the wide places of a list of slots
abbrev pub wides : List ℕ → List ℕ
wides l = map (λ (e : ℕ). wide e) l

-- the slot with the wide place x
abbrev pub slot_at : ℕ → ℕ
slot_at x = x - x / 4

-- the wide place of the slot after it
abbrev pub after_place : ℕ → ℕ
after_place x = wide (next_slot (slot_at x))

-- where its own number stands
abbrev pub own_place_lem : ℕ → ℕ
own_place_lem x = own (slot_at x)
