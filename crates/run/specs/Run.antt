-- Thinning as a run of steps. P is the limit: P a b says that the edge ab is short enough.
use Rattle.std.specs.Prelude.{◌≡◌, List, [], ◌∷◌, ℕ, ◌≤◌, ◌<◌}
use Rattle.surface.specs.Rows.{Row}
use Rattle.surface.specs.Link.{Meets}
use Rattle.surface.specs.Record.{Record, Replays}

-- (a, b) comes no later than (c, d): smallest lower number, then smallest higher number
pub data NotAfter (a b c d : ℕ) : Type 0 where
  lower : a < c → NotAfter a b c d
  level : a ≡ c → b ≤ d → NotAfter a b c d

-- the edge from a up to b meets the link condition and the limit
pub record Qualifies (P : ℕ → ℕ → Type 0) (T : List Row) (a b : ℕ) : Type 0 where
  pub rises : a < b
  pub meets : Meets T a b
  pub allowed : P a b

-- the least edge that qualifies
pub record Least (P : ℕ → ℕ → Type 0) (T : List Row) (a b : ℕ) : Type 0 where
  pub does : Qualifies P T a b
  pub first : {c d : ℕ} → Qualifies P T c d → NotAfter a b c d

-- steps from T to T' with the records l, each of the least edge that qualifies before it
pub data Taken (P : ℕ → ℕ → Type 0) : List Row → List Record → List Row → Type 0 where
  none_yet : {T T' : List Row} → T ≡ T' → Taken P T [] T'
  one_more : {T T₁ T' : List Row} {k : Record} {l : List Record} → Least P T k.kept k.removed → Replays T k T₁ → Taken P T₁ l T' → Taken P T (k ∷ l) T'

-- no edge of T qualifies
pub record Over (P : ℕ → ℕ → Type 0) (T : List Row) : Type 0 where
  pub over : (a b : ℕ) → ¬ Qualifies P T a b

-- thinning ends when no edge qualifies
pub record Run (P : ℕ → ℕ → Type 0) (T : List Row) (l : List Record) (T' : List Row) : Type 0 where
  pub taken : Taken P T l T'
  pub ended : Over P T'
