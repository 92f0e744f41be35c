-- Marks in a list: 0 for none.
use Rattle.std.specs.Prelude.{◌≡◌, List, [], ◌∷◌, ℕ, zero, suc, get_or}

-- nothing is written yet
pub record Blank (l : List ℕ) : Type 0 where
  pub blank : (k : ℕ) → get_or l k 0 ≡ 0

-- how many are not marked
unfoldable pub zeros : List ℕ → ℕ
zeros [] = 0
zeros (zero ∷ l) = suc (zeros l)
zeros (suc x ∷ l) = zeros l
