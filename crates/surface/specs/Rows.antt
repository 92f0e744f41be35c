-- A row is three corner numbers (a, b, c) in turning order. A flat table is read by threes.
use Rattle.std.specs.Prelude.{◌≡◌, List, [], ◌∷◌, ℕ}

pub data Row : Type 0 where
  row : ℕ → ℕ → ℕ → Row

-- a flat table, read by threes
unfoldable pub rows : List ℕ → List Row
rows [] = []
rows (i ∷ []) = []
rows (i ∷ j ∷ []) = []
rows (i ∷ j ∷ k ∷ rest) = row i j k ∷ rows rest

-- the numbers of a table, row after row
unfoldable pub flat : List Row → List ℕ
flat [] = []
flat (row i j k ∷ T) = i ∷ j ∷ k ∷ flat T

-- r is (v, p, q), however it is turned
pub data Turned (r : Row) (v p q : ℕ) : Type 0 where
  turn_0 : r ≡ row v p q → Turned r v p q
  turn_1 : r ≡ row p q v → Turned r v p q
  turn_2 : r ≡ row q v p → Turned r v p q
