-- Marks that tell the rings of a table: each walk round a corner marks the slots that it passes.
use Rattle.std.specs.Prelude.{◌≢◌, List, ℕ, ◌-◌, ◌≤◌, ◌<◌, length, get_or}
use Rattle.surface.specs.Lists.{Reach}
use Rattle.surface.specs.Rows.{rows}
use Rattle.surface.specs.Table.{Follows}
use Rattle.slots.specs.Slot.{next_slot, Whole}
use Rattle.slots.specs.Chain.{Lasts}
use Rattle.reverses.specs.Reverse.{Reverses, onward_slot}

-- what a walk reads: the last slot of each corner, where it begins, and the reverses, by which it goes on
pub record CanWalk (t last reverse : List ℕ) : Type 0 where
  pub whole : Whole t
  pub heads : Lasts t last
  pub back : Reverses t reverse

-- the neighbour of v at which the walk round v begins
unfoldable pub begin : List ℕ → List ℕ → ℕ → ℕ
begin t last v = get_or t (next_slot (get_or last v 0 - 1)) 0

-- a marked slot's neighbour is reached from where the walk round its corner begins
pub record Sound (t last m : List ℕ) : Type 0 where
  pub room : length t ≤ length m
  pub sound : (e : ℕ) → e < length t → get_or m e 0 ≢ 0 → Reach (Follows (rows t) (get_or t e 0)) (begin t last (get_or t e 0)) (get_or t (next_slot e) 0)

-- and the slot onward is marked
pub record HandedOn (t reverse m : List ℕ) : Type 0 where
  pub on : (e : ℕ) → e < length t → get_or m e 0 ≢ 0 → get_or m (onward_slot reverse e) 0 ≢ 0

-- the walk round v has been made
pub record Walked (t last reverse m m' : List ℕ) (v : ℕ) : Type 0 where
  pub marks : Sound t last m'
  pub hands : HandedOn t reverse m'
  pub kept : (k : ℕ) → get_or m k 0 ≢ 0 → get_or m' k 0 ≢ 0
  pub begun : 0 < get_or last v 0 → get_or m' (get_or last v 0 - 1) 0 ≢ 0

-- the walks round all corners below n have been made
pub record AllWalked (t last reverse m' : List ℕ) (n : ℕ) : Type 0 where
  pub marks : Sound t last m'
  pub hands : HandedOn t reverse m'
  pub begun : (v : ℕ) → v < n → 0 < get_or last v 0 → get_or m' (get_or last v 0 - 1) 0 ≢ 0
