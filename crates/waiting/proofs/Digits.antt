-- The digits of a number: of an or with a power of two, of a difference by one, and the lowest that is set.
use mathlib.Core.Path.{◌≡◌, refl, sym, ◌∙◌, ap}
use mathlib.Core.Logic.{◌≢◌}
use Prim.Native.Nat.{ℕ, zero, suc, ◌+◌, ◌-◌, ◌^◌, ◌≤◌, ◌<◌, ◌/◌, ◌%◌, max}
use native.Mathlib.Decide.{ℕ_discrete}
use native.Mathlib.Nat.{pow-suc, zero-max, max-zero, suc-max-suc}
use native.Mathlib.Omega.{arith}
use lib.Bits.{bit_or, or_step}
use lib.Count.{count_trailing_zeros, under}
use Rattle.waiting.specs.InnerWaiting.{digit}

pub digit_most : (x k : ℕ) → digit x k ≤ 1
unfolding digit
digit_most x zero = omega arith
digit_most x (suc k) = digit_most (x / 2) k

pub digit_zero : (k : ℕ) → digit 0 k ≡ 0
unfolding digit
digit_zero zero = refl
digit_zero (suc k) = digit_zero k

-- a number with a digit is not nought
pub digit_some : (x k : ℕ) → digit x k ≡ 1 → x ≢ 0
digit_some x k h e = let z = digit_zero k in let q : digit 0 k ≡ 1 = (rw (sym e) h) in omega arith

-- 2 ^ (k + 1), for omega
two_more : (k : ℕ) → 2 ^ suc k ≡ 2 ^ k + 2 ^ k
two_more k = pow-suc 2 k ∙ omega arith

pub power_some : (k : ℕ) → 1 ≤ 2 ^ k
power_some zero = omega arith
power_some (suc k) = let a = power_some k in let b = two_more k in omega arith

max_digit : (a b : ℕ) → a ≤ 1 → b ≤ 1 → max a b ≤ 1
max_digit zero b h k = rw (zero-max b) k
max_digit (suc a) zero h k = rw (max-zero (suc a)) h
max_digit (suc a) (suc b) h k = rw (suc-max-suc a b) (let z = max_digit a b (omega arith) (omega arith) in small a b (omega arith) (omega arith))
  where
    small : (a b : ℕ) → a ≡ 0 → b ≡ 0 → suc (max a b) ≤ 1
    small a b p q = rw (p, q) (omega arith)

max_one : (a b : ℕ) → a ≤ 1 → b ≡ 1 → max a b ≡ 1
max_one zero b h e = zero-max b ∙ e
max_one (suc a) b h e = let z : a ≡ 0 = omega arith in rw (z, e) refl

-- no digit of a number below 2 ^ k from k on
pub digit_past : (k x j : ℕ) → x < 2 ^ k → k ≤ j → digit x j ≡ 0
unfolding digit
digit_past zero x j h l = let e : x ≡ 0 = omega arith in rw e (digit_zero j)
digit_past (suc k) x zero h l = absurd (omega arith)
digit_past (suc k) x (suc j) h l = digit_past k (x / 2) j (let b = two_more k in omega arith) (omega arith)

-- one half of an or, and its lowest digit
or_half : (x y : ℕ) → bit_or x y / 2 ≡ bit_or (x / 2) (y / 2)
or_half x y = let e = or_step x y in let a = max_digit (x % 2) (y % 2) (omega arith) (omega arith) in omega arith

or_low : (x y : ℕ) → bit_or x y % 2 ≡ max (x % 2) (y % 2)
or_low x y = let e = or_step x y in let a = max_digit (x % 2) (y % 2) (omega arith) (omega arith) in omega arith

-- 2 ^ k has the digit k alone
power_digit : (k : ℕ) → digit (2 ^ k) k ≡ 1
unfolding digit
power_digit zero = refl
power_digit (suc k) = let e : 2 ^ suc k / 2 ≡ 2 ^ k = (let b = two_more k in omega arith) in rw e (power_digit k)

power_other : (k j : ℕ) → j ≢ k → digit (2 ^ k) j ≡ 0
unfolding digit
power_other zero zero n = absurd (n refl)
power_other zero (suc j) n = digit_zero j
power_other (suc k) zero n = let b = two_more k in omega arith
power_other (suc k) (suc j) n = let e : 2 ^ suc k / 2 ≡ 2 ^ k = (let b = two_more k in omega arith) in rw e (power_other k j (λ q. n (ap suc q)))

-- the digits of an or
pub or_digit : (x y j : ℕ) → digit (bit_or x y) j ≡ max (digit x j) (digit y j)
unfolding digit
or_digit x y zero = or_low x y
or_digit x y (suc j) = ap (λ (z : ℕ). digit z j) (or_half x y) ∙ or_digit (x / 2) (y / 2) j

pub or_here : (x k : ℕ) → digit (bit_or x (2 ^ k)) k ≡ 1
or_here x k = or_digit x (2 ^ k) k ∙ max_one (digit x k) (digit (2 ^ k) k) (digit_most x k) (power_digit k)

pub or_other : (x k j : ℕ) → j ≢ k → digit (bit_or x (2 ^ k)) j ≡ digit x j
or_other x k j n = or_digit x (2 ^ k) j ∙ (rw (power_other k j n) (max-zero (digit x j)))

-- a set digit taken off
pub less_fits : (k x : ℕ) → digit x k ≡ 1 → 2 ^ k ≤ x
unfolding digit
less_fits zero x h = omega arith
less_fits (suc k) x h = let a = less_fits k (x / 2) h in let b = two_more k in omega arith

-- a half, less a half
less_half : (k x : ℕ) → digit x (suc k) ≡ 1 → (x - 2 ^ suc k) / 2 ≡ x / 2 - 2 ^ k
less_half k x h = let b = two_more k in let a = less_fits (suc k) x h in omega arith

pub less_here : (k x : ℕ) → digit x k ≡ 1 → digit (x - 2 ^ k) k ≡ 0
unfolding digit
less_here zero x h = omega arith
less_here (suc k) x h = rw (less_half k x h) (less_here k (x / 2) h)

pub less_other : (k x j : ℕ) → digit x k ≡ 1 → j ≢ k → digit (x - 2 ^ k) j ≡ digit x j
unfolding digit
less_other zero x zero h n = absurd (n refl)
less_other zero x (suc j) h n = let e : (x - 1) / 2 ≡ x / 2 = omega arith in rw e refl
less_other (suc k) x zero h n = let a = less_fits k (x / 2) h in let b = two_more k in omega arith
less_other (suc k) x (suc j) h n = rw (less_half k x h) (less_other k (x / 2) j h (λ q. n (ap suc q)))

-- the lowest set digit
pub record Lowest (K x r : ℕ) : Type 0 where
  pub below : r < K
  pub set : digit x r ≡ 1
  pub first : (j : ℕ) → j < r → digit x j ≡ 0

pub lowest : (K x : ℕ) → x < 2 ^ K → x ≢ 0 → Lowest K x (count_trailing_zeros K x)
unfolding count_trailing_zeros digit
lowest zero x h n = absurd (n (omega arith))
lowest (suc K) x h n = go (λ a b. lowest K (x / 2) a b) (ℕ_discrete (x % 2) 1)
  where
    go : (x / 2 < 2 ^ K → x / 2 ≢ 0 → Lowest K (x / 2) (count_trailing_zeros K (x / 2))) → Dec (x % 2 ≡ 1) → Lowest (suc K) x (under (x % 2) (count_trailing_zeros K (x / 2)))
    go rec (yes e) = rw e (record { below = omega arith; set = e; first = λ j l. absurd (omega arith) })
    go rec (no e) =
        let z : x % 2 ≡ 0 = omega arith in
        let r = rec (let b = two_more K in omega arith) (λ q. n (omega arith)) in
        rw z (record { below = (let a = r.below in omega arith); set = r.set; first = λ j l. first j l r })
      where
        first : (j : ℕ) → j < suc (count_trailing_zeros K (x / 2)) → Lowest K (x / 2) (count_trailing_zeros K (x / 2)) → digit x j ≡ 0
        first zero l r = omega arith
        first (suc j) l r = r.first j (omega arith)
