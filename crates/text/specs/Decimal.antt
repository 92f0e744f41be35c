-- Numbers as text: decimal digits with no needless zero in front, and a minus only before a nonzero number.
use Rattle.std.specs.Prelude.{List, [], ◌∷◌, ◌++◌, ℕ, zero, suc, ◌+◌, ◌/◌, ◌%◌, ℤ, pos, negsuc}

-- the byte of a digit
abbrev pub digit : ℕ → ℕ
digit d = 48 + d

-- the byte of a minus
abbrev pub minus : ℕ
minus = 45

-- what is left of a number is spelled in front; of 0 nothing is, so that no needless zero stands there
abbrev pub front : ℕ → (ℕ → List ℕ) → List ℕ
front zero spelled = []
front (suc q) spelled = spelled (suc q)

-- the digits of n, at most so many: those of n / 10, then the last one
unfoldable pub digits : ℕ → ℕ → List ℕ
digits zero n = []
digits (suc k) n = front (n / 10) (digits k) ++ (digit (n % 10) ∷ [])

-- the digits of n, all of them: no number has more than itself and one
unfoldable pub decimal : ℕ → List ℕ
decimal n = digits (suc n) n

-- a minus only before a nonzero number
abbrev pub signed : ℤ → List ℕ
signed (pos n) = decimal n
signed (negsuc n) = minus ∷ decimal (suc n)
