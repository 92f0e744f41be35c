-- A number below zero.
use mathlib.Core.Path.{◌≡◌, refl}
use mathlib.Core.Bool.{true, false}
use Prim.Native.Nat.{ℕ, suc, ◌^◌, ◌<◌}
use native.Mathlib.Omega.{arith}
use borrow.Author.Tests.{leb-true}
use lib.IntN.{ℤ, pos, negsuc}
use lib.Signed.{lt_z}
use mir.Syntax.{w64}
use mir.Val.{SFits}

pub true_false : {X : Type 0} → true ≡ false → X
true_false p = let z : ◌≡◌ {A = ℕ} 0 1 = cc in absurd (omega arith)

-- below zero: the number is -(k + 1)
pub record Below (z : ℤ) : Type 0 where
  pub k : ℕ
  pub is : z ≡ negsuc k
  pub small : k < 2 ^ 63

pub below : (z : ℤ) → SFits w64 z → lt_z z (pos 0) ≡ true → Below z
below (pos n) f t = absurd (omega (arith, leb-true (suc n) 0 t))
below (negsuc n) f t = record { k = n; is = refl; small = f.sfits }
