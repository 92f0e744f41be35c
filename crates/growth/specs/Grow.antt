-- Growing back: the removed number on the rows round the kept corner from y forward to x, and the two rows back at their places.
use Rattle.std.specs.Prelude.{◌≡◌, ◌≢◌, List, [], ◌∷◌, ℕ, zero, suc, ◌<◌, length}
use Rattle.surface.specs.Lists.{Reach}
use Rattle.surface.specs.Rows.{Row, Turned}
use Rattle.surface.specs.Table.{Follows}
use Rattle.surface.specs.Contract.{renumber}
use Rattle.surface.specs.Record.{Placed, at, Record, placed}

-- r put in at place i
unfoldable pub put : ℕ → Row → List Row → List Row
put zero r T = r ∷ T
put (suc i) r [] = r ∷ []
put (suc i) r (z ∷ T) = z ∷ put i r T

-- rows put back at their places, the earlier first
unfoldable pub put_back : List Placed → List Row → List Row
put_back [] T = T
put_back (at i r ∷ l) T = put_back l (put i r T)

-- the neighbour p of a comes from y forward, before x
pub record Between (T : List Row) (a x y p : ℕ) : Type 0 where
  pub on : Reach (λ s t. Follows T a s t × (s ≢ x)) y p
  pub short : p ≢ x

-- what becomes of a row: from y forward to x round a, b takes a's place
pub data RowRegrown (T : List Row) (a b x y : ℕ) (r' r : Row) : Type 0 where
  renamed : {p q : ℕ} → Turned r' a p q → Between T a x y p → r ≡ renumber b a r' → RowRegrown T a b x y r' r
  left_be : ((p q : ℕ) → Turned r' a p q → ¬ Between T a x y p) → r ≡ r' → RowRegrown T a b x y r' r

-- one list of rows becomes another, row by row
pub data Each (R : Row → Row → Type 0) : List Row → List Row → Type 0 where
  each_none : Each R [] []
  each_more : {r' r : Row} {T' T : List Row} → R r' r → Each R T' T → Each R (r' ∷ T') (r ∷ T)

-- T is what growing back makes of T' with the rows l put back
pub record Grown (a b x y : ℕ) (l : List Placed) (T' T : List Row) : Type 0 where
  pub middle : List Row
  pub each : Each (RowRegrown T' a b x y) T' middle
  pub whole : T ≡ put_back l middle

-- the row with the directed edge a to b has the third corner x, the other one y; either may be the earlier
pub data Ends (a b : ℕ) (r₁ r₂ : Row) (x y : ℕ) : Type 0 where
  in_order : Turned r₁ a b x → Turned r₂ b a y → Ends a b r₁ r₂ x y
  crossed : Turned r₁ b a y → Turned r₂ a b x → Ends a b r₁ r₂ x y

-- T is what the record k makes of T': it has such rows, and its places are in order and inside the grown table
pub record Grows (T' : List Row) (k : Record) (T : List Row) : Type 0 where
  pub x : ℕ
  pub y : ℕ
  pub ends : Ends k.kept k.removed k.row_1 k.row_2 x y
  pub in_order : k.place_1 < k.place_2
  pub inside : k.place_2 < length T
  pub grown : Grown k.kept k.removed x y (placed k) T' T
