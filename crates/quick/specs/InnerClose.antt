-- The quick engine on a whole table: what it is asked for, and what it leaves.
use Rattle.std.specs.Prelude.{◌≡◌, List, ℕ, ◌+◌, ◌≤◌, length}
use Rattle.surface.specs.Limits.{most_corners}
use Rattle.surface.specs.Rows.{Row, rows, flat}
use Rattle.surface.specs.Record as surface
use Rattle.record.specs.Layout.{room_for}
use Rattle.record.specs.Front.{zeroed}
use Rattle.slots.specs.Marks.{Blank}
use Rattle.spots.specs.InnerLists.{WideLists}
use Rattle.ranks.specs.InnerRanks.{every, CountsRows}
use Rattle.waiting.specs.InnerWaiting.{Member}
use Rattle.trapped.specs.ByCorner.{ByCorner}
use Rattle.quick.specs.InnerGround.{Room, Logged}

-- the log l has the d records, and room for as many as may follow
abbrev pub RoomFor : List ℕ → List ℕ → ℕ → Type 0
RoomFor t l d = (room_for d ≤ length l) × Room (rows t) l d

-- the run from t, corner by corner: its last stage in front and zeros behind, its records in the log
pub record ThinnedAll (n : ℕ) (t l : List ℕ) (d k : ℕ) (t' l' : List ℕ) : Type 0 where
  pub log : List surface.Record
  pub last : List Row
  pub run : ByCorner n (rows t) log last
  pub table : t' ≡ zeroed last t
  pub fits : length (flat last) ≤ length t
  pub logged : Logged log l d k l'

-- as work begins on the table t: its lists are made, no corner is marked, none waits, and every row stands
pub record Begun (t start list mark bits sub sup : List ℕ) : Type 0 where
  pub lists : WideLists t start list
  pub size : length mark ≡ most_corners + 1
  pub marks : Blank mark
  pub empty : (w : ℕ) → ¬ Member bits w
  pub stand : CountsRows every sub sup
