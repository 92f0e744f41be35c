-- Signed numbers as words: two's complement.
use Rattle.std.specs.Prelude.{◌≡◌, ℕ, suc, ◌-◌, ◌^◌, ℤ, pos, negsuc, neg_ℤ, ◌≤ℤ◌, ◌<ℤ◌, Option, Some, None}

-- the word of a signed number of 64 bits: the number itself where it is not below zero, else 2 ^ 64 less its size
unfoldable pub twos : ℤ → ℕ
twos (pos n) = n
twos (negsuc n) = 2 ^ 64 - suc n

-- x is a signed number of 32 bits, and w its word
pub record Narrow (w : ℕ) (x : ℤ) : Type 0 where
  pub word : w ≡ twos x
  pub least : neg_ℤ (pos (2 ^ 31)) ≤ℤ x
  pub most : x <ℤ pos (2 ^ 31)

-- the signed number of 32 bits whose word it is; or it is none's
unfoldable pub ReadNarrow : ℕ → Option ℤ → Type 0
ReadNarrow w (Some x) = Narrow w x
ReadNarrow w None = (x : ℤ) → ¬ Narrow w x
