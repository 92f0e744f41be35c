-- A number with its sign is read as a number, after its minus or with none.
use mathlib.Core.Path.{◌≡◌, refl, sym, ◌∙◌, ap, subst}
use mathlib.Core.List.{List, ◌∷◌, ◌++◌}
use Prim.Native.Nat.{ℕ, zero, suc, ◌+◌, ◌^◌, ◌≤◌, ◌<◌}
use mathlib.Core.Bool.{true}
use native.Mathlib.Omega.{arith}
use lib.IntN.{ℤ, pos, negsuc, nat_abs, neg_ℤ, ◌-ℤ◌, +ℤ_idl}
use lib.ListN.{drop}
use lib.Signed.{lt_z}
use mir.Syntax.{w64}
use mir.Val.{SFits, to_z, of_z}
use mir.ValLaws.{to_z-of_z}
use Rattle.ints.proofs.Machine.{Is, lit, var, less, fits, kept}
use Rattle.ints.proofs.Short.{below}
use Rattle.text.specs.Decimal.{minus, decimal, signed}
use Rattle.text.specs.Inner.{Digit, NoDigit}
use Rattle.text.specs.InnerReading.{NumberAt, SignedAt}
use Rattle.text.proofs.Digits.{decimal_injective, digits_below}
use Rattle.text.proofs.Scan.{none_there, number_unique}

-- ---- the machine's numbers

pub fits_above : (v : ℕ) → v < 2 ^ 63 → SFits w64 (pos v)
fits_above v h = record { sfits = h }

pub read_above : (v : ℕ) → v < 2 ^ 63 → to_z w64 v ≡ pos v
read_above v h = to_z-of_z w64 (pos v) (fits_above v h)

module _ (v : ℕ) (h : v < 2 ^ 63) where
  taken : Is (0 + v) (pos 0 -ℤ pos v) (pos 0 -ℤ to_z w64 v)
  taken = less (lit 0) (var w64 {B = v} {z = pos v} (fits_above v h) (omega arith))

  pub fits_below : SFits w64 (pos 0 -ℤ to_z w64 v)
  fits_below = fits w64 taken (omega arith)

zero_less : (k : ℕ) → pos 0 -ℤ pos (suc k) ≡ negsuc k
zero_less k = +ℤ_idl (negsuc k)

pub read_below : (v : ℕ) → v < 2 ^ 63 → to_z w64 (of_z w64 (pos 0 -ℤ to_z w64 v)) ≡ neg_ℤ (pos v)
read_below zero h = refl
read_below (suc k) h = (kept w64 (taken (suc k) h) (omega arith)).same ∙ zero_less k

-- ---- after a minus, and with none

minus_no_digit : ¬ Digit minus
minus_no_digit d = let l = d.least in omega arith

module _ {most : ℕ} {l x : List ℕ} (e : l ≡ minus ∷ x) where
  no_number : {w : ℕ} {r : List ℕ} → NumberAt most l w r → ⊥
  no_number n = none_there (subst NoDigit (sym e) minus_no_digit) n

  tail_number : {m : ℕ} {r : List ℕ} → SignedAt most l (negsuc m) r → NumberAt most x (suc m) r
  tail_number {m} {r} a = record { bytes = (let f : minus ∷ x ≡ minus ∷ (decimal (suc m) ++ r) = sym e ∙ a.bytes in cc); short = a.short; ends = a.ends }

as_number : {most n : ℕ} {l r : List ℕ} → SignedAt most l (pos n) r → NumberAt most l n r
as_number a = record { bytes = a.bytes; short = a.short; ends = a.ends }

same_number : {most v w : ℕ} {l p q : List ℕ} → NumberAt most l v p → NumberAt most l w q → v ≡ w
same_number {v = v} {w = w} a b = decimal_injective v w (number_unique a b).0

module _ (most : ℕ) (s : List ℕ) (at : ℕ) where
  -- no zero has a minus
  pub minus_zero : (c : ℕ) → drop at s ≡ minus ∷ drop c s → {x : List ℕ} → NumberAt most (drop c s) 0 x → (z : ℤ) (r : List ℕ) → SignedAt most (drop at s) z r → ⊥
  minus_zero c e a (pos m) r b = no_number e (as_number b)
  minus_zero c e a (negsuc m) r b = let z = same_number a (tail_number e b) in omega arith

  pub minus_none : (c : ℕ) → drop at s ≡ minus ∷ drop c s → ((v : ℕ) (r : List ℕ) → ¬ NumberAt most (drop c s) v r) → (z : ℤ) (r : List ℕ) → SignedAt most (drop at s) z r → ⊥
  minus_none c e a (pos m) r b = no_number e (as_number b)
  minus_none c e a (negsuc m) r b = a (suc m) r (tail_number e b)

  pub none_above : ((r : List ℕ) → ¬ (drop at s ≡ minus ∷ r)) → ((v : ℕ) (r : List ℕ) → ¬ NumberAt most (drop at s) v r) → (z : ℤ) (r : List ℕ) → SignedAt most (drop at s) z r → ⊥
  none_above e a (pos m) r b = a m r (as_number b)
  none_above e a (negsuc m) r b = e (decimal (suc m) ++ r) b.bytes

  pub signed_below : (c n : ℕ) {r : List ℕ} → drop at s ≡ minus ∷ drop c s → NumberAt most (drop c s) n r → (n ≡ 0 → ⊥) → SignedAt most (drop at s) (neg_ℤ (pos n)) r
  signed_below c zero e a h = absurd (h refl)
  signed_below c (suc n) e a h = record { bytes = e ∙ ap (λ x. minus ∷ x) a.bytes; short = a.short; ends = a.ends }

  pub signed_above : {n : ℕ} {r : List ℕ} → NumberAt most (drop at s) n r → SignedAt most (drop at s) (pos n) r
  signed_above a = record { bytes = a.bytes; short = a.short; ends = a.ends }

pub small_enough : {most n : ℕ} {l r : List ℕ} → most ≤ 18 → NumberAt most l n r → n < 2 ^ 63
small_enough {n = n} h a = let k = a.short in omega (arith, digits_below n 18 (omega arith))

-- only one number with its sign, and one end
pub signed_unique : {most : ℕ} {l p q : List ℕ} (z w : ℤ) → SignedAt most l z p → SignedAt most l w q → (z ≡ w) × (p ≡ q)
signed_unique (pos m) (pos n) a b = (ap pos (same_number (as_number a) (as_number b)), (number_unique (as_number a) (as_number b)).1)
signed_unique (pos m) (negsuc n) a b = absurd (no_number b.bytes (as_number a))
signed_unique (negsuc m) (pos n) a b = absurd (no_number a.bytes (as_number b))
signed_unique (negsuc m) (negsuc n) a b =
    let x = tail_number a.bytes a in
    let y = tail_number a.bytes b in
    let e = same_number x y in
    let f : m ≡ n = omega arith in
    (ap negsuc f, (number_unique x y).1)

-- ---- by the sign that the machine tests

abbrev Tested : ℤ → ℤ
Tested z = to_z w64 (of_z w64 z)

pub signed_neg : (z : ℤ) → SFits w64 z → lt_z (Tested z) (pos 0) ≡ true → signed z ≡ minus ∷ decimal (nat_abs z)
signed_neg z f t = let b = below z f (sym (ap (λ k. lt_z k (pos 0)) (to_z-of_z w64 z f)) ∙ t) in rw b.is
