-- The order of source 000, section 4, with the corners taken from the lowest up: "iteratively choose a vertex u (rather than an edge) from the current triangulation", and contract
-- "(contractible) edges incident on u until no edge incident on u is contractible". 000 leaves open which corner is next. Which of its edges is, Algorithm 4.2 fixes: those to corners with three
-- neighbours go to the front of its list, the others to the rear as they come, and what failed is looked at when the list is empty. Here both are the lowest.
use Rattle.std.specs.Prelude.{◌≡◌, List, [], ◌++◌, ℕ, zero, suc, ◌<◌}
use Rattle.follow.specs.Leads.{Leads}
use Rattle.surface.specs.Rows.{Row}
use Rattle.surface.specs.Link.{Meets}
use Rattle.surface.specs.Record.{Record, Replays}
use Rattle.trapped.specs.Trapped.{NextAt}

-- a step at u: the record k takes into u the least corner above u whose edge to u meets the condition
pub record Contracts (u : ℕ) (T : List Row) (k : Record) (T' : List Row) : Type 0 where
  pub at_u : k.kept ≡ u
  pub next : NextAt T u k.removed
  pub replays : Replays T k T'

-- steps at u, one after another
abbrev pub Steps : ℕ → List Row → List Record → List Row → Type 0
Steps u = Leads (Contracts u)

-- u is finished: steps at u, until no edge of it to a higher corner meets the condition. `ended` speaks of the higher corners only; where the lower ones are finished, `finished_on`
-- in Finish shows that no edge of u to them meets it either
pub record AtCorner (u : ℕ) (T : List Row) (l : List Record) (T' : List Row) : Type 0 where
  pub steps : Steps u T l T'
  pub ended : (h : ℕ) → u < h → ¬ Meets T' u h

-- the corners below u, finished one after another from the lowest up
pub data Corners : ℕ → List Row → List Record → List Row → Type 0 where
  not_begun : {T T' : List Row} → T ≡ T' → Corners zero T [] T'
  next_corner : {u : ℕ} {T T₁ T' : List Row} {l m : List Record} → Corners u T l T₁ → AtCorner u T₁ m T' → Corners (suc u) T (l ++ m) T'

-- all n corners
abbrev pub ByCorner : ℕ → List Row → List Record → List Row → Type 0
ByCorner n = Corners n
