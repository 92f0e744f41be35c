-- Numbers of at most six digits: each is below a million.
use mathlib.Core.List.{List, [], ◌∷◌, map}
use Prim.Native.Nat.{ℕ, zero, suc, ◌^◌, ◌<◌}
use native.Mathlib.Omega.{arith}
use lib.IntN.{pos}
use lib.ListN.{length, get_or}
use Rattle.text.proofs.Digits.{digits_below, below_digits}
use Rattle.lines.specs.Lines.{FewDigits}
use Rattle.heading.specs.Heading.{most_digits}

pub short_each : (log : List ℕ) → FewDigits most_digits (map pos log) → (j : ℕ) → j < length log → get_or log j 0 < 10 ^ most_digits
short_each [] s j h = absurd (omega arith)
short_each (n ∷ log) s zero h = digits_below n most_digits s.0
short_each (n ∷ log) s (suc j) h = short_each log s.1 j (omega arith)

pub all_short : (log : List ℕ) → ((j : ℕ) → j < length log → get_or log j 0 < 10 ^ most_digits) → FewDigits most_digits (map pos log)
all_short [] h = tt
all_short (n ∷ log) h = (below_digits n most_digits (omega arith) (h 0 (omega arith)), all_short log (λ j l. h (suc j) (omega arith)))
