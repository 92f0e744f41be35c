-- Signed machine numbers of any width, each with the number that it stands for and a bound on its size.
-- A signed local holds bits, so a goal has `to_z w (of_z w ..)` round each parameter, element and result.
use mathlib.Core.Path.{◌≡◌, refl, sym, ◌∙◌, ap, subst}
use Prim.Native.Nat.{ℕ, ◌+◌, ◌*◌, ◌/◌, ◌^◌, ◌≤◌, ◌<◌}
use native.Mathlib.Nat.{mul-le-mul, mod-lt, div-mul-le_self, le-div_iff_mul-le}
use native.Mathlib.Omega.{arith}
use lib.Dec.{T}
use lib.IntN.{ℤ, pos, negsuc, ◌+ℤ◌, ◌-ℤ◌, ◌*ℤ◌, nat_abs}
use lib.Signed.{mag, non_neg, quot_z, rem_z}
use mir.Syntax.{Width}
use mir.Val.{Fits, bits, SFits, hbits, to_z, of_z}
use mir.ValLaws.{to_z-of_z}
use Rattle.ints.proofs.Ints.{abs_add, abs_minus, abs_mul, abs_quot, abs_rem, square}

-- ---- what fits a width

mag_abs : (z : ℤ) → mag z ≤ nat_abs z
mag_abs (pos n) = omega arith
mag_abs (negsuc n) = omega arith

pub sfits_abs : (w : Width) (z : ℤ) → nat_abs z < 2 ^ hbits w → SFits w z
sfits_abs w z h = record { sfits = omega (arith, mag_abs z) }

pub abs_sfits : (w : Width) (z : ℤ) → SFits w z → nat_abs z ≤ 2 ^ hbits w
abs_sfits w (pos n) h = omega (arith, h.sfits)
abs_sfits w (negsuc n) h = h.sfits

-- ---- a small calculus: m is the machine's expression for z, and z is at most B in size

pub record Is (B : ℕ) (z m : ℤ) : Type 0 where
  pub same : m ≡ z
  pub size : nat_abs z ≤ B

pub within : {B : ℕ} {z m : ℤ} → Is B z m → nat_abs m ≤ B
within {B} v = subst (λ (k : ℤ). nat_abs k ≤ B) (sym v.same) v.size

-- what a contract tells
pub tells : {B : ℕ} {z m : ℤ} → Is B z m → (m ≡ z) × (nat_abs m ≤ B)
tells v = (v.same, within v)

-- a constant of either sign
pub constant : (z : ℤ) → Is (nat_abs z) z z
constant z = record { same = refl; size = omega arith }

-- a literal that is not below zero
pub lit : (n : ℕ) → Is n (pos n) (pos n)
lit n = record { same = refl; size = omega arith }

module _ (w : Width) where
  -- a parameter whose size is known
  pub var : {B : ℕ} {z : ℤ} → SFits w z → nat_abs z ≤ B → Is B z (to_z w (of_z w z))
  var {B} {z} f s = record { same = to_z-of_z w z f; size = s }

  -- any parameter at all
  pub any : {z : ℤ} → SFits w z → Is (2 ^ hbits w) z (to_z w (of_z w z))
  any {z} f = var f (abs_sfits w z f)

  -- a call's result, of which its contract tells what it is and how large: `told w64 c.f.ok c.f.ensures`
  pub told : {B : ℕ} {z r : ℤ} → mag r < 2 ^ hbits w → (r ≡ z) × (nat_abs r ≤ B) → Is B z (to_z w (of_z w r))
  told {B} {r = r} f e = record { same = to_z-of_z w r (record { sfits = f }) ∙ e.0; size = subst (λ (k : ℤ). nat_abs k ≤ B) e.0 e.1 }

  pub fits : {B : ℕ} {z m : ℤ} → Is B z m → B < 2 ^ hbits w → SFits w m
  fits {m = m} v h = sfits_abs w m (omega (arith, within v))

  -- a number goes into a local, or is cast to this width, and is read back
  pub kept : {B : ℕ} {z m : ℤ} → Is B z m → B < 2 ^ hbits w → Is B z (to_z w (of_z w m))
  kept {m = m} v h = record { same = to_z-of_z w m (fits v h) ∙ v.same; size = v.size }

  -- what a cast to an unsigned number asks, and what it gives
  pub unsigned_fits : {B n : ℕ} {m : ℤ} → Is B (pos n) m → B < 2 ^ bits w → T (non_neg m) × Fits w (nat_abs m)
  unsigned_fits v h = (subst (λ (k : ℤ). T (non_neg k)) (sym v.same) tt, record { fits = omega (arith, within v) })

pub unsigned : {B n : ℕ} {m : ℤ} → Is B (pos n) m → nat_abs m ≡ n
unsigned v = ap nat_abs v.same

-- an expression of some number within B, to name it once in a proof: `known (times ..)`, then `.is`
pub record Known (B : ℕ) : Type 0 where
  pub z : ℤ
  pub m : ℤ
  pub is : Is B z m

abbrev pub known : {B : ℕ} {z m : ℤ} → Is B z m → Known B
known {z = z} {m = m} v = record { z = z; m = m; is = v }

-- ---- its operations

module _ {A B : ℕ} {x y m n : ℤ} (v : Is A x m) (u : Is B y n) where
  pub times : Is (A * B) (x *ℤ y) (m *ℤ n)
  times = record { same = λ i. v.same i *ℤ u.same i; size = omega (arith, abs_mul x y, mul-le-mul v.size u.size) }

  pub plus : Is (A + B) (x +ℤ y) (m +ℤ n)
  plus = record { same = λ i. v.same i +ℤ u.same i; size = omega (arith, abs_add x y, v.size, u.size) }

  pub less : Is (A + B) (x -ℤ y) (m -ℤ n)
  less = record { same = λ i. v.same i -ℤ u.same i; size = omega (arith, abs_minus x y, v.size, u.size) }

-- times itself: never below zero
pub squared : {A : ℕ} {x m : ℤ} → Is A x m → Is (A * A) (pos (nat_abs x * nat_abs x)) (m *ℤ m)
squared {x = x} v = record { same = (times v v).same ∙ square x; size = mul-le-mul v.size v.size }

-- divided toward zero, and the remainder
module _ {A : ℕ} {x m : ℤ} (v : Is A x m) (d : ℕ) (some : 0 < d) where
  pub over : Is (A / d) (quot_z x (pos d)) (quot_z m (pos d))
  over =
      let le : nat_abs x / d ≤ A / d = (le-div_iff_mul-le some).1 (omega (arith, div-mul-le_self (nat_abs x) d, v.size)) in
      record { same = ap (λ (z : ℤ). quot_z z (pos d)) v.same; size = omega (arith, le, abs_quot x d) }

  pub rest : Is d (rem_z x (pos d)) (rem_z m (pos d))
  rest = record { same = ap (λ (z : ℤ). rem_z z (pos d)) v.same; size = omega (arith, mod-lt (nat_abs x) some, abs_rem x d) }
