-- What is reached from one corner by edges: marks, and a queue of the marked corners.
use Rattle.std.specs.Prelude.{◌≡◌, ◌≢◌, List, ℕ, ◌+◌, ◌≤◌, ◌<◌, length, get_or, set}
use Rattle.surface.specs.Lists.{Reach}
use Rattle.surface.specs.Rows.{rows}
use Rattle.surface.specs.Table.{Edge, Used}
use Rattle.slots.specs.Slot.{next_slot}
use Rattle.slots.specs.Marks.{zeros}

-- w is marked and queued at l, unless it was marked
pub data Noted (m q : List ℕ) (w l : ℕ) (m' q' : List ℕ) (l' : ℕ) : Type 0 where
  old : get_or m w 0 ≢ 0 → m' ≡ m → q' ≡ q → l' ≡ l → Noted m q w l m' q' l'
  new : get_or m w 0 ≡ 0 → m' ≡ set m w 1 → q' ≡ set q l w → l' ≡ l + 1 → Noted m q w l m' q' l'

-- the marked corners are the l queued ones, and are reached from the first of these
pub record Reached (t m q : List ℕ) (l : ℕ) : Type 0 where
  pub some : 0 < l
  pub room : length m ≤ length q
  pub held : (k : ℕ) → k < l → get_or q k 0 < length m
  pub marked : (k : ℕ) → k < l → get_or m (get_or q k 0) 0 ≢ 0
  pub sound : (v : ℕ) → get_or m v 0 ≢ 0 → Reach (Edge (rows t)) (get_or q 0 0) v
  pub queued : (v : ℕ) → get_or m v 0 ≢ 0 → (k : ℕ) × (k < l) × (get_or q k 0 ≡ v)
  pub count : l + zeros m ≡ length m

-- marks and queue have grown, and have the neighbours of v at its slots from x on
pub record Grew (t : List ℕ) (v : ℕ) (m q : List ℕ) (l : ℕ) (m' q' : List ℕ) (l' x : ℕ) : Type 0 where
  pub state : Reached t m' q' l'
  pub longer : l ≤ l'
  pub same_m : length m' ≡ length m
  pub same_q : length q' ≡ length q
  pub kept : (k : ℕ) → get_or m k 0 ≢ 0 → get_or m' k 0 ≢ 0
  pub front : (k : ℕ) → k < l → get_or q' k 0 ≡ get_or q k 0
  pub near : (e : ℕ) → x ≤ e → e < length t → get_or t e 0 ≡ v → get_or m' (get_or t (next_slot e) 0) 0 ≢ 0

-- what is marked is what is reached from one used corner
pub record AllReached (t m : List ℕ) : Type 0 where
  pub root : ℕ
  pub used : Used (rows t) root
  pub start : get_or m root 0 ≢ 0
  pub sound : (v : ℕ) → get_or m v 0 ≢ 0 → Reach (Edge (rows t)) root v
  pub closed : (e : ℕ) → e < length t → get_or m (get_or t e 0) 0 ≢ 0 → get_or m (get_or t (next_slot e) 0) 0 ≢ 0
