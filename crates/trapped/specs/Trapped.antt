-- Corners that are finished: no edge of theirs may be contracted, now or later.
use Rattle.std.specs.Prelude.{◌≢◌, List, ℕ, ◌≤◌, ◌<◌}
use Rattle.surface.specs.Lists.{Exactly}
use Rattle.surface.specs.Rows.{Row}
use Rattle.surface.specs.Table.{Edge}
use Rattle.surface.specs.Link.{Meets}

-- no edge at v meets the link condition. Source 000, Definition 4: "If all edges incident on v are non-contractible, then v is called trapped". All of them, also those to lower corners.
abbrev pub Trapped : List Row → ℕ → Type 0
Trapped T v = (w : ℕ) → ¬ Meets T v w

-- the corners below u are finished
abbrev pub Finished : List Row → ℕ → Type 0
Finished T u = (w : ℕ) → w < u → Trapped T w

-- no limit
abbrev pub Any : ℕ → ℕ → Type 0
Any a b = Unit {0}

-- the least h above u whose edge to u meets the condition
pub record NextAt (T : List Row) (u h : ℕ) : Type 0 where
  pub meets : Meets T u h
  pub rises : u < h
  pub first : {k : ℕ} → u < k → Meets T u k → h ≤ k

-- after b went into u an edge of u to h that failed need not be tried again: h was no neighbour of b, or was u's already and b had not just three neighbours. Source 000, Proposition 7, of an edge e
-- that failed and becomes contractible with the contraction of f: "f must be incident on a degree-3 vertex v of K and e must belong to lk(v, K)"
pub data Spared (T : List Row) (u b h : ℕ) : Type 0 where
  far : ¬ Edge T b h → Spared T u b h
  many : {k : ℕ} → Exactly (Edge T b) k → k ≢ 3 → Edge T u h → h ≢ b → Spared T u b h
