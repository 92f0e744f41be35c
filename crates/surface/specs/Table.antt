-- What the rows of a table say: what follows what round a corner, the directed edges, the used corners.
use Rattle.std.specs.Prelude.{List, [], ◌∷◌, ℕ}
use Rattle.surface.specs.Lists.{◌∈◌}
use Rattle.surface.specs.Rows.{Row, row, Turned}

-- q follows p round v: some row of T is (v, p, q), however it is turned
pub record Follows (T : List Row) (v p q : ℕ) : Type 0 where
  pub by : Row
  pub here : by ∈ T
  pub turned : Turned by v p q

-- T has the directed edge p to q; p and q are neighbours
abbrev pub Edge : List Row → ℕ → ℕ → Type 0
Edge T p q = (w : ℕ) × Follows T p q w

-- T uses the corner v
abbrev pub Used : List Row → ℕ → Type 0
Used T v = (p : ℕ) × Edge T v p

infix 6 ◌⇒◌
pub data Arrow : Type 0 where
  ◌⇒◌ : ℕ → ℕ → Arrow

-- a row (a, b, c) has the directed edges a to b, b to c, c to a; those of a table, in order
unfoldable pub edges : List Row → List Arrow
edges [] = []
edges (row i j k ∷ T) = (i ⇒ j) ∷ (j ⇒ k) ∷ (k ⇒ i) ∷ edges T
