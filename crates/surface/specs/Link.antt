-- When an edge may be contracted.
use Rattle.std.specs.Prelude.{◌≢◌, ◌⊎◌, ◌≡◌, List, ℕ}
use Rattle.surface.specs.Rows.{Row}
use Rattle.surface.specs.Table.{Follows, Edge}

-- the edge pq lies in the link of v, one way round or the other; the corners of that link are the neighbours of v
abbrev pub Link : List Row → ℕ → ℕ → ℕ → Type 0
Link T v p q = Follows T v p q ⊎ Follows T v q p

-- w is a common neighbour of a and b
abbrev pub Common : List Row → ℕ → ℕ → ℕ → Type 0
Common T a b w = Edge T a w × Edge T b w

-- source document 002, Theorem 2A: the link of a meets the link of b in the link of ab, which has the two corners opposite and no edge
pub record Meets (T : List Row) (a b : ℕ) : Type 0 where
  pub edge : Edge T a b
  pub corner : {w : ℕ} → Edge T a w → Edge T b w → Follows T a b w ⊎ Follows T b a w
  pub no_edge : {u w : ℕ} → Link T a u w → Link T b u w → ⊥

-- the working form: the two corners opposite the edge are the only common neighbours, and no edge lies in both links
pub record Opposite (T : List Row) (a b x y : ℕ) : Type 0 where
  pub left : Follows T a b x
  pub right : Follows T b a y
  pub two : x ≢ y
  pub only : {w : ℕ} → Edge T a w → Edge T b w → (w ≡ x) ⊎ (w ≡ y)
  pub no_edge : {p q : ℕ} → Link T a p q → Link T b p q → ⊥
