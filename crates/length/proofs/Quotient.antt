-- The reader's arithmetic on numbers alone: cutting k bits and dividing by d is one division, and what is far too small or too large shows before it.
use mathlib.Core.Path.{◌≡◌, sym, ◌∙◌, ap}
use Prim.Native.Nat.{ℕ, ◌+◌, ◌-◌, ◌*◌, ◌/◌, ◌^◌, ◌≤◌, ◌<◌}
use native.Mathlib.Nat.{mul_assoc, mul-div-mul_left, div-div-eq-div-mul, div-eq_of_lt, zero-div, lt_of_lt_of_le, le_trans, mul-le-mul, le-mul_of_pos_right, le-div_iff_mul-le, mul-pos, le_of_eq}
use native.Mathlib.Omega.{arith}
use lib.Pow.{pow-add, pow_pos, pow_mono}
use borrow.Author.Tests.{le-leb, lt-leb}
use Rattle.std.specs.Prelude.{Some, None}
use Rattle.length.specs.Limit.{most_limit, capped}

-- q * 2 ^ j in a unit of n * 2 ^ u / d, over 2 ^ l: the shared powers of two go, and k bits are cut
pub cut_once : (q n d j u k l : ℕ) → j + u + k ≡ l → q * 2 ^ j * (n * 2 ^ u) / (2 ^ l * d) ≡ q * n / 2 ^ k / d
cut_once q n d j u k l e =
    ap (λ (z : ℕ). q * 2 ^ j * (n * 2 ^ u) / (z * d)) (sym (ap (λ (z : ℕ). 2 ^ z) e) ∙ pow-add 2 (j + u) k ∙ ap (λ (z : ℕ). z * 2 ^ k) (pow-add 2 j u))
    ∙ shared (2 ^ j) (2 ^ u) (2 ^ k) (mul-pos (pow_pos j) (pow_pos u))
    ∙ sym (div-div-eq-div-mul (q * n) (2 ^ k) d)
  where
    turn : (q a n b : ℕ) → q * a * (n * b) ≡ a * b * (q * n)
    turn q a n b = omega arith

    shared : (a b c : ℕ) → 0 < a * b → q * a * (n * b) / (a * b * c * d) ≡ q * n / (c * d)
    shared a b c h = rw (turn q a n b, mul_assoc (a * b) c d) (mul-div-mul_left (q * n) (c * d) h)

-- a product below 2 ^ 64 is cut whole by 64 bits and more
pub gone : (p k d : ℕ) → p < 2 ^ 64 → 64 ≤ k → p / 2 ^ k / d ≡ 0
gone p k d h hk = ap (λ (z : ℕ). z / d) (div-eq_of_lt (lt_of_lt_of_le h (pow_mono hk))) ∙ zero-div d

-- where the power of two is not below one, P ≤ R, the quotient is too large
pub too_large : (q n d P R : ℕ) → 0 < P → P ≤ R → (most_limit + 1) * d ≤ q → 0 < n → 0 < d → most_limit < q * R * n / (P * d)
too_large q n d P R hp h hq hn hd =
    (le-div_iff_mul-le (mul-pos hp hd)).1
    (le_trans (le_of_eq (turn d P)) (le_trans (mul-le-mul hq h) (le-mul_of_pos_right (q * R) hn)))
  where
    turn : (d P : ℕ) → (most_limit + 1) * (P * d) ≡ (most_limit + 1) * d * P
    turn d P = omega arith

-- 53 digits times a number of 11 fit 64 bits
pub product : (a n : ℕ) → a < 2 ^ 53 → n < 2 ^ 11 → a * n < 2 ^ 64
product a n ha hn = omega (arith, mul-le-mul {n₁ = a} {m₁ = n} {n₂ = 2 ^ 53 - 1} {m₂ = 2 ^ 11 - 1} (omega arith) (omega arith))

pub capped_usable : {c : ℕ} → c ≤ most_limit → capped c ≡ Some c
unfolding capped
capped_usable {c} h = rw (le-leb c most_limit h)

pub capped_above : {c : ℕ} → most_limit < c → capped c ≡ None
unfolding capped
capped_above {c} h = rw (lt-leb c most_limit h)
