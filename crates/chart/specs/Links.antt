-- The links of a corner's chain. A link is 0, the head, or one more than a slot of the corner; what hangs on it is the next slot below, plus one.
use Rattle.std.specs.Prelude.{◌≡◌, List, ℕ, zero, suc, ◌<◌, length, get_or, set}

-- x is a link of the chain of u
unfoldable pub Link : List ℕ → ℕ → ℕ → Type 0
Link t u zero = Unit
Link t u (suc e) = (e < length t) × (get_or t e 0 ≡ u)

-- below which slot what hangs on it is
unfoldable pub top : List ℕ → ℕ → ℕ
top t zero = length t
top t (suc e) = e

-- what hangs on it
unfoldable pub after : List ℕ → List ℕ → ℕ → ℕ → ℕ
after last prev u zero = get_or last u 0
after last prev u (suc e) = get_or prev e 0

-- the chains with z hung on it
unfoldable pub hung_last : List ℕ → ℕ → ℕ → ℕ → List ℕ
hung_last last u zero z = set last u z
hung_last last u (suc e) z = last

unfoldable pub hung_prev : List ℕ → ℕ → ℕ → List ℕ
hung_prev prev zero z = prev
hung_prev prev (suc e) z = set prev e z
