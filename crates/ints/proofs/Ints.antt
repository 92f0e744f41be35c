-- ℤ by absolute values: what a bound on a signed sum, difference or product wants.
use mathlib.Core.Path.{◌≡◌, refl, sym, ◌∙◌, ap}
use mathlib.Core.Bool.{Bool, true, false, cond}
use Prim.Native.Nat.{ℕ, zero, suc, ◌+◌, ◌-◌, ◌*◌, ◌/◌, ◌%◌, ◌≤◌}
use native.Mathlib.Omega.{arith}
use native.Mathlib.Nat.{mul-zero, div-add-mod}
use lib.Dec.{ltb}
use borrow.Author.Tests.{ltb-true, ltb-false, le-ltb}
use lib.Signed.{quot_z, rem_z}
use lib.IntN.{ℤ, pos, negsuc, suc_ℤ, pred_ℤ, neg_ℤ, sub_ℕ, ◌+ℤ◌, ◌-ℤ◌, ◌*ℤ◌, nat_abs, neg_ℤ-neg_ℤ, neg_ℤ-+ℤ, +ℤ_comm, +ℤ_assoc, +ℤ_idl, +ℤ_invr, -ℤ-+ℤ_cancel, suc_ℤ-+ℤ, pred_ℤ-+ℤ, zero-*ℤ, suc_ℤ-*ℤ, pred_ℤ-*ℤ, *ℤ_comm}

pub abs_neg : (z : ℤ) → nat_abs (neg_ℤ z) ≡ nat_abs z
abs_neg (pos zero) = refl
abs_neg (pos (suc n)) = refl
abs_neg (negsuc n) = refl

-- ---- sums and differences

abs_sub : (a b : ℕ) → nat_abs (sub_ℕ a b) ≤ a + b
abs_sub a b = go (ltb a b) refl
  where
    go : (t : Bool) → ltb a b ≡ t → nat_abs (cond t (negsuc (b - suc a)) (pos (a - b))) ≤ a + b
    go true e = omega (arith, ltb-true a b e)
    go false e = omega arith

pub abs_add : (x y : ℤ) → nat_abs (x +ℤ y) ≤ nat_abs x + nat_abs y
abs_add (pos a) (pos b) = omega arith
abs_add (pos a) (negsuc b) = abs_sub a (suc b)
abs_add (negsuc a) (pos b) = omega (arith, abs_sub b (suc a))
abs_add (negsuc a) (negsuc b) = omega arith

pub abs_minus : (x y : ℤ) → nat_abs (x -ℤ y) ≤ nat_abs x + nat_abs y
abs_minus x y = omega (arith, abs_add x (neg_ℤ y), abs_neg y)

pub minus_self : (x : ℤ) → x -ℤ x ≡ pos 0
minus_self x = +ℤ_invr x

pub minus_back : (x y : ℤ) → neg_ℤ (x -ℤ y) ≡ y -ℤ x
minus_back x y = neg_ℤ-+ℤ x (neg_ℤ y) ∙ ap (λ t. neg_ℤ x +ℤ t) (neg_ℤ-neg_ℤ y) ∙ +ℤ_comm (neg_ℤ x) y

pub minus_neg : (x y : ℤ) → neg_ℤ x -ℤ neg_ℤ y ≡ neg_ℤ (x -ℤ y)
minus_neg x y = sym (neg_ℤ-+ℤ x (neg_ℤ y))

-- from x to z by way of y
pub minus_through : (x y z : ℤ) → x -ℤ z ≡ (x -ℤ y) +ℤ (y -ℤ z)
minus_through x y z = ap (λ t. t +ℤ neg_ℤ z) (sym (-ℤ-+ℤ_cancel x y)) ∙ +ℤ_assoc (x -ℤ y) y (neg_ℤ z)

pub abs_back : (x y : ℤ) → nat_abs (x -ℤ y) ≡ nat_abs (y -ℤ x)
abs_back x y = sym (abs_neg (x -ℤ y)) ∙ ap nat_abs (minus_back x y)

pub abs_through : (x y z : ℤ) → nat_abs (x -ℤ z) ≤ nat_abs (x -ℤ y) + nat_abs (y -ℤ z)
abs_through x y z = rw (minus_through x y z) (abs_add (x -ℤ y) (y -ℤ z))

-- two sums, added by their parts
pub plus_parts : (a b c d : ℤ) → (a +ℤ b) +ℤ (c +ℤ d) ≡ (a +ℤ c) +ℤ (b +ℤ d)
plus_parts a b c d =
    +ℤ_assoc a b (c +ℤ d)
    ∙ ap (λ t. a +ℤ t) (sym (+ℤ_assoc b c d) ∙ ap (λ t. t +ℤ d) (+ℤ_comm b c) ∙ +ℤ_assoc c b d)
    ∙ sym (+ℤ_assoc a c (b +ℤ d))

-- the one taken from the other
pub minus_parts : (a b c d : ℤ) → (a +ℤ b) -ℤ (c +ℤ d) ≡ (a -ℤ c) +ℤ (b -ℤ d)
minus_parts a b c d = ap (λ t. (a +ℤ b) +ℤ t) (neg_ℤ-+ℤ c d) ∙ plus_parts a b (neg_ℤ c) (neg_ℤ d)

-- ---- products

pub abs_mul : (x y : ℤ) → nat_abs (x *ℤ y) ≡ nat_abs x * nat_abs y
abs_mul (pos a) (pos b) = refl
abs_mul (pos a) (negsuc b) = abs_neg (pos (a * suc b))
abs_mul (negsuc a) (pos b) = abs_neg (pos (suc a * b))
abs_mul (negsuc a) (negsuc b) = refl

pub square : (x : ℤ) → x *ℤ x ≡ pos (nat_abs x * nat_abs x)
square (pos a) = refl
square (negsuc a) = refl

pub times_neg : (x y : ℤ) → x *ℤ neg_ℤ y ≡ neg_ℤ (x *ℤ y)
times_neg (pos a) (pos zero) = rw (mul-zero a)
times_neg (pos a) (pos (suc b)) = refl
times_neg (pos a) (negsuc b) = sym (neg_ℤ-neg_ℤ (pos (a * suc b)))
times_neg (negsuc a) (pos zero) = rw (mul-zero (suc a))
times_neg (negsuc a) (pos (suc b)) = sym (neg_ℤ-neg_ℤ (pos (suc a * suc b)))
times_neg (negsuc a) (negsuc b) = refl

-- the last summand of three goes to the front ones
pub last_in : (a b c : ℤ) → (a +ℤ b) +ℤ c ≡ (a +ℤ c) +ℤ b
last_in a b c = +ℤ_assoc a b c ∙ ap (λ t. a +ℤ t) (+ℤ_comm b c) ∙ sym (+ℤ_assoc a c b)

module _ (y z x : ℤ) (h : (y +ℤ z) *ℤ x ≡ y *ℤ x +ℤ z *ℤ x) where
  one_up : (suc_ℤ y +ℤ z) *ℤ x ≡ suc_ℤ y *ℤ x +ℤ z *ℤ x
  one_up =
      ap (λ t. t *ℤ x) (suc_ℤ-+ℤ y z) ∙ suc_ℤ-*ℤ (y +ℤ z) x ∙ ap (λ t. t +ℤ x) h
      ∙ last_in (y *ℤ x) (z *ℤ x) x ∙ ap (λ t. t +ℤ z *ℤ x) (sym (suc_ℤ-*ℤ y x))

  one_down : (pred_ℤ y +ℤ z) *ℤ x ≡ pred_ℤ y *ℤ x +ℤ z *ℤ x
  one_down =
      ap (λ t. t *ℤ x) (pred_ℤ-+ℤ y z) ∙ pred_ℤ-*ℤ (y +ℤ z) x ∙ ap (λ t. t -ℤ x) h
      ∙ last_in (y *ℤ x) (z *ℤ x) (neg_ℤ x) ∙ ap (λ t. t +ℤ z *ℤ x) (sym (pred_ℤ-*ℤ y x))

at_zero : (z x : ℤ) → (pos zero +ℤ z) *ℤ x ≡ pos zero *ℤ x +ℤ z *ℤ x
at_zero z x = ap (λ t. t *ℤ x) (+ℤ_idl z) ∙ sym (+ℤ_idl (z *ℤ x)) ∙ ap (λ t. t +ℤ z *ℤ x) (sym (zero-*ℤ x))

plus_times : (y z x : ℤ) → (y +ℤ z) *ℤ x ≡ y *ℤ x +ℤ z *ℤ x
plus_times (pos zero) z x = at_zero z x
plus_times (pos (suc n)) z x = one_up (pos n) z x (plus_times (pos n) z x)
plus_times (negsuc zero) z x = one_down (pos zero) z x (at_zero z x)
plus_times (negsuc (suc n)) z x = one_down (negsuc n) z x (plus_times (negsuc n) z x)

pub times_plus : (x y z : ℤ) → x *ℤ (y +ℤ z) ≡ x *ℤ y +ℤ x *ℤ z
times_plus x y z = *ℤ_comm x (y +ℤ z) ∙ plus_times y z x ∙ (λ i. *ℤ_comm y x i +ℤ *ℤ_comm z x i)

pub times_minus : (x y z : ℤ) → x *ℤ (y -ℤ z) ≡ x *ℤ y -ℤ x *ℤ z
times_minus x y z = times_plus x y (neg_ℤ z) ∙ ap (λ t. x *ℤ y +ℤ t) (times_neg x z)

-- ---- the distance of two naturals

pub pos_minus : (a b : ℕ) → b ≤ a → pos a -ℤ pos b ≡ pos (a - b)
pos_minus a zero h = ap pos (omega arith)
pos_minus a (suc b) h = rw (le-ltb a (suc b) h)

pub abs_diff : (a b : ℕ) → nat_abs (pos a -ℤ pos b) ≡ (a - b) + (b - a)
abs_diff a zero = omega arith
abs_diff a (suc b) = go (ltb a (suc b)) refl
  where
    go : (t : Bool) → ltb a (suc b) ≡ t → nat_abs (cond t (negsuc (suc b - suc a)) (pos (a - suc b))) ≡ (a - suc b) + (suc b - a)
    go true e = omega (arith, ltb-true a (suc b) e)
    go false e = omega (arith, ltb-false a (suc b) e)

-- two naturals on the two sides of zero
pub abs_across : (a b : ℕ) → nat_abs (neg_ℤ (pos a) -ℤ pos b) ≡ a + b
abs_across a b = ap nat_abs (sym (neg_ℤ-+ℤ (pos a) (pos b))) ∙ abs_neg (pos (a + b))

-- ---- division toward zero, the remainder with the sign of what is divided

pub abs_quot : (s : ℤ) (d : ℕ) → nat_abs (quot_z s (pos d)) ≡ nat_abs s / d
abs_quot (pos n) d = refl
abs_quot (negsuc n) d = abs_neg (pos (suc n / d))

pub abs_rem : (s : ℤ) (d : ℕ) → nat_abs (rem_z s (pos d)) ≡ nat_abs s % d
abs_rem (pos n) d = refl
abs_rem (negsuc n) d = abs_neg (pos (suc n % d))
