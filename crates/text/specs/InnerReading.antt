-- What stands in front of bytes, and what the readers answer.
use Rattle.std.specs.Prelude.{◌≡◌, List, ◌∷◌, ◌++◌, ℕ, ◌+◌, ◌≤◌, ◌<◌, ℤ, nat_abs, length, drop, Option, Some, None}
use Rattle.std.proofs.lemmas.List.Edits.{sets}
use Rattle.text.specs.Decimal.{digit, decimal, signed}
use Rattle.text.specs.Inner.{NoDigit}
use Rattle.text.specs.declared.Cursor.{Cursor}

-- the number v stands in front of l, in at most so many digits; r follows, and begins with no digit
pub record NumberAt (most : ℕ) (l : List ℕ) (v : ℕ) (r : List ℕ) : Type 0 where
  pub bytes : l ≡ decimal v ++ r
  pub short : length (decimal v) ≤ most
  pub ends : NoDigit r

-- the same of a number with its sign; a minus is no digit
pub record SignedAt (most : ℕ) (l : List ℕ) (z : ℤ) (r : List ℕ) : Type 0 where
  pub bytes : l ≡ signed z ++ r
  pub short : length (decimal (nat_abs z)) ≤ most
  pub ends : NoDigit r

-- a number read from a place, and the place after it; or none stands there
unfoldable pub ReadNumber : ℕ → List ℕ → ℕ → Option (ℕ × Cursor) → Type 0
ReadNumber most s at (Some r) = NumberAt most (drop at s) r.0 (drop r.1.at s)
ReadNumber most s at None = (v : ℕ) (r : List ℕ) → ¬ NumberAt most (drop at s) v r

-- the same of a number with its sign
unfoldable pub ReadSigned : ℕ → List ℕ → ℕ → Option (ℤ × Cursor) → Type 0
ReadSigned most s at (Some r) = SignedAt most (drop at s) r.0 (drop r.1.at s)
ReadSigned most s at None = (z : ℤ) (r : List ℕ) → ¬ SignedAt most (drop at s) z r

-- the bytes w read from a place, and the place after them; or they do not stand there
unfoldable pub Expected : List ℕ → List ℕ → ℕ → Option Cursor → Type 0
Expected w s at (Some c) = drop at s ≡ w ++ drop c.at s
Expected w s at None = (r : List ℕ) → ¬ (drop at s ≡ w ++ r)

-- a digit stands at a place
pub record Standing (s : List ℕ) (i d : ℕ) : Type 0 where
  pub below : d < 10
  pub within : i < length s
  pub here : drop i s ≡ digit d ∷ drop (i + 1) s

-- the digit at a place; or none stands there
abbrev pub DigitAt : List ℕ → ℕ → Option ℕ → Type 0
DigitAt s i (Some d) = Standing s i d
DigitAt s i None = NoDigit (drop i s)

-- the bytes w put at a place, and the place after them
pub record Written (l : List ℕ) (at : ℕ) (w : List ℕ) (r : ℕ) (l' : List ℕ) : Type 0 where
  pub place : r ≡ at + length w
  pub text : l' ≡ sets l at w
