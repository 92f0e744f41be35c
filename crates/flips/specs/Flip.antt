-- The flip of a listed edge: when it is allowed, what it writes and what it leaves; and why it is refused.
use Rattle.std.specs.Prelude.{◌≡◌, List, ◌∷◌, ℕ, zero, suc, set}
use Rattle.surface.specs.Rows.{Row, row, Turned}
use Rattle.surface.specs.Table.{Follows, Edge}

-- r stands at place i, as it is stored
pub data Stands : List Row → ℕ → Row → Type 0 where
  stands_here : {r z : Row} {T : List Row} → r ≡ z → Stands (z ∷ T) zero r
  stands_later : {r z : Row} {T : List Row} {i : ℕ} → Stands T i r → Stands (z ∷ T) (suc i) r

-- what a flip logs: place and old row of (a, b, c), then of (b, a, d)
pub record Flip : Type 0 where
  pub place_1 : ℕ
  pub row_1 : Row
  pub place_2 : ℕ
  pub row_2 : Row

-- the flip of the edge a b is allowed in T, logs k and leaves T': the rows (a, b, c) and (b, a, d), however they are turned, stand at their
-- places, c and d are no neighbours, and (c, a, d) comes in the first one's place and (c, d, b) in the second's
pub record Flips (T : List Row) (a b : ℕ) (k : Flip) (T' : List Row) : Type 0 where
  pub c : ℕ
  pub d : ℕ
  pub stands_1 : Stands T k.place_1 k.row_1
  pub turned_1 : Turned k.row_1 a b c
  pub stands_2 : Stands T k.place_2 k.row_2
  pub turned_2 : Turned k.row_2 b a d
  pub no_edge : ¬ Edge T c d
  pub leaves : T' ≡ set (set T k.place_2 (row c d b)) k.place_1 (row c a d)

-- 30: the edge is missing; a number that is no used corner makes it so, and in a stage a = b does
abbrev pub NoEdge : List Row → ℕ → ℕ → Type 0
NoEdge T a b = ¬ Edge T a b

-- 31: the flip is blocked, c and d are neighbours already
pub record Blocked (T : List Row) (a b : ℕ) : Type 0 where
  pub c : ℕ
  pub d : ℕ
  pub first : Follows T a b c
  pub second : Follows T b a d
  pub edge : Edge T c d
