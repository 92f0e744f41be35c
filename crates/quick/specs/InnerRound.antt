-- The quick engine at a corner.
use Rattle.std.specs.Prelude.{◌≡◌, ◌≢◌, ◌⊎◌, List, ℕ, ◌+◌, ◌<◌, get_or}
use Rattle.surface.specs.Limits.{most_corners}
use Rattle.surface.specs.Table.{Edge}
use Rattle.surface.specs.Link.{Meets}
use Rattle.surface.specs.Record as surface
use Rattle.spots.specs.InnerHeld.{held_rows, HoldsStage}
use Rattle.waiting.specs.InnerWaiting.{Member, waiters}
use Rattle.trapped.specs.Trapped.{Spared}
use Rattle.trapped.specs.ByCorner.{Steps, AtCorner, Corners}
use Rattle.quick.specs.InnerGround.{gone_mark, Ground, BeforeCorner, Logged}

-- at the corner u: its neighbours and u itself are marked with u + 1; those above it that do not wait are known to be blocked
pub record AtOpenCorner (n : ℕ) (h start list mark bits sub sup l : List ℕ) (u total d : ℕ) : Type 0 where
  pub ground : Ground n h start list mark sub sup l (u + 1) (u + 1) total d
  pub own : get_or mark u 0 ≡ u + 1
  pub marked : (w : ℕ) → get_or mark w 0 ≡ u + 1 → Edge (held_rows h) u w ⊎ (w ≡ u)
  pub marks_all : (w : ℕ) → Edge (held_rows h) u w → get_or mark w 0 ≡ u + 1
  pub near : (w : ℕ) → Member bits w → (u < w) × Edge (held_rows h) u w
  pub known : (w : ℕ) → u < w → Edge (held_rows h) u w → ¬ Member bits w → ¬ Meets (held_rows h) u w

-- the steps at u from h to h', with their records in the log
pub record Progress (u : ℕ) (h l : List ℕ) (d d' : ℕ) (h' l' : List ℕ) : Type 0 where
  pub log : List surface.Record
  pub steps : Steps u (held_rows h) log (held_rows h')
  pub logged : Logged log l d d' l'

-- one try, of v: a step, or one corner fewer that waits. A corner waits again only where its edge to u can have changed.
pub record Tried (n : ℕ) (start list h bits l h' mark' bits' sub' sup' l' : List ℕ) (u v total d d' : ℕ) : Type 0 where
  pub round : AtOpenCorner n h' start list mark' bits' sub' sup' l' u total d'
  pub progress : Progress u h l d d' h' l'
  pub fell : (d' ≡ d + 1) ⊎ ((d' ≡ d) × (waiters bits' most_corners < waiters bits most_corners))
  pub again : (w : ℕ) → Member bits' w → (Member bits w × (w ≢ v)) ⊎ (¬ Spared (held_rows h) u v w)

-- the corner u finished
pub record CornerDone (n : ℕ) (start list h l h' mark' bits' sub' sup' l' : List ℕ) (u total d d' : ℕ) : Type 0 where
  pub before : BeforeCorner n h' start list mark' bits' sub' sup' l' (u + 1) total d'
  pub log : List surface.Record
  pub corner : AtCorner u (held_rows h) log (held_rows h')
  pub logged : Logged log l d d' l'

-- the corners below u finished
pub record AllDone (n u : ℕ) (h l h' l' : List ℕ) (d d' : ℕ) : Type 0 where
  pub held : HoldsStage n h'
  pub log : List surface.Record
  pub corners : Corners u (held_rows h) log (held_rows h')
  pub logged : Logged log l d d' l'

-- r is the mark that spares a neighbour: none where v had three, else that of u's neighbours
abbrev pub Unchanged : ℕ → ℕ → ℕ → Type 0
Unchanged k u r = ((k ≡ 3) × (r ≡ gone_mark + 1)) ⊎ ((k ≢ 3) × (r ≡ u + 1))
