-- The quick engine: what holds between the corners, and what has been made so far.
use Rattle.std.specs.Prelude.{◌≡◌, ◌⊎◌, List, ◌++◌, ℕ, ◌+◌, ◌*◌, ◌≤◌, ◌<◌, length, get_or, take, drop}
use Rattle.surface.specs.Limits.{least_corners, most_corners}
use Rattle.surface.specs.Lists.{Exactly}
use Rattle.surface.specs.Rows.{Row}
use Rattle.surface.specs.Table.{Edge, Used}
use Rattle.surface.specs.Record as surface
use Rattle.record.specs.Layout.{log_of, room_for}
use Rattle.spots.specs.InnerHeld.{flat_of, held_rows, HoldsStage}
use Rattle.spots.specs.InnerLists.{WideLists}
use Rattle.waiting.specs.InnerWaiting.{Member}
use Rattle.strike.specs.InnerStrike.{Tallied}

-- the mark of a corner that has been removed: above every other mark
abbrev pub gone_mark : ℕ
gone_mark = most_corners + 1

-- the lists of the first table serve for the corners from lowest on. Their numbers stand where they stood first, and where a number does not stand any
-- more its row has left or its corner has been removed.
pub record ListsServe (h start list mark : List ℕ) (lowest : ℕ) : Type 0 where
  pub first : List ℕ
  pub lists : WideLists first start list
  pub same : length (flat_of h) ≡ length first
  pub old : (e : ℕ) → e < length first → lowest ≤ get_or (flat_of h) e 0 → get_or (flat_of h) e 0 < most_corners → get_or first e 0 ≡ get_or (flat_of h) e 0
  pub still : (e : ℕ) → e < length first → (get_or (flat_of h) e 0 ≡ get_or first e 0) ⊎ ((get_or (flat_of h) e 0 ≡ most_corners) ⊎ (get_or mark (get_or first e 0) 0 ≡ gone_mark))

-- every mark is at most k, or says that the corner is unused; the number that stands in rows that have left is never marked
pub record MarksHold (h mark : List ℕ) (k : ℕ) : Type 0 where
  pub size : length mark ≡ most_corners + 1
  pub bound : (z : ℕ) → (get_or mark z 0 ≤ k) ⊎ (get_or mark z 0 ≡ gone_mark)
  pub unused : (z : ℕ) → get_or mark z 0 ≡ gone_mark → (w : ℕ) → ¬ Edge (held_rows h) z w
  pub no_corner : get_or mark most_corners 0 ≡ 0

-- the log l, which has d records, has room for as many as may follow from the rows T
abbrev pub Room : List Row → List ℕ → ℕ → Type 0
Room T l d = (v : ℕ) → Exactly (Used T) v → room_for (d + v) ≤ length l + room_for least_corners

-- what holds at every corner: the table, its lists for the corners from lowest on, its marks, its count, and the log. total counts the rows, and two for each record.
pub record Ground (n : ℕ) (h start list mark sub sup l : List ℕ) (lowest k total d : ℕ) : Type 0 where
  pub held : HoldsStage n h
  pub charted : ListsServe h start list mark lowest
  pub marks : MarksHold h mark k
  pub tallied : Tallied h sub sup
  pub rows : total ≡ length (held_rows h) + 2 * d
  pub room : Room (held_rows h) l d

-- before the corner u: none is marked with u + 1, and none waits
pub record BeforeCorner (n : ℕ) (h start list mark bits sub sup l : List ℕ) (u total d : ℕ) : Type 0 where
  pub ground : Ground n h start list mark sub sup l u u total d
  pub empty : (w : ℕ) → ¬ Member bits w

-- the records of log stand in the log after the d that stood there, d' in all; the rest is as it was
pub record Logged (log : List surface.Record) (l : List ℕ) (d d' : ℕ) (l' : List ℕ) : Type 0 where
  pub count : d' ≡ d + length log
  pub same : length l' ≡ length l
  pub inside : room_for d' ≤ length l
  pub logged : l' ≡ take (room_for d) l ++ (log_of log ++ drop (room_for d') l)
