-- The figure by whole part and rest: the rest counts upwards, so above zero a half goes on to the next whole, below zero it stays.
use mathlib.Core.Path.{◌≡◌, refl, sym, ◌∙◌, ap}
use mathlib.Core.Bool.{true, false}
use Prim.Native.Nat.{ℕ, zero, suc, ◌-◌, ◌*◌, ◌≤◌, ◌<◌}
use native.Mathlib.Omega.{arith}
use borrow.Author.Tests.{leb-true}
use lib.IntN.{ℤ, pos, negsuc, neg_ℤ, ◌+ℤ◌, ◌*ℤ◌, +ℤ_one}
use lib.Signed.{lt_z}
use Rattle.ints.proofs.Short.{true_false}
use Rattle.wide.specs.Rounding.{divisor, half, to_nearest, figure}
use Rattle.wide.proofs.Rounded.{figure_neg}
use Rattle.wide.proofs.Laws.{below_zero_lem}

one_on : (n : ℕ) → negsuc n +ℤ pos 1 ≡ neg_ℤ (pos n)
one_on zero = refl
one_on (suc n) = +ℤ_one (negsuc (suc n))

figure_below : (n r k : ℕ) → r < divisor → k ≡ to_nearest (divisor * suc n - r) → neg_ℤ (pos k) ≡ figure (pos divisor *ℤ negsuc n +ℤ pos r)
unfolding figure
figure_below n r k h e = ap (λ (m : ℕ). neg_ℤ (pos m)) e ∙ sym (ap figure (below_zero_lem n r h) ∙ figure_neg (pos (divisor * suc n - r)))

-- ---- the four ways out: w is the whole part, r the rest

pub up_above : (w : ℤ) (r : ℕ) → r < divisor → lt_z w (pos 0) ≡ false → half ≤ r → w +ℤ pos 1 ≡ figure (pos divisor *ℤ w +ℤ pos r)
unfolding figure
up_above (pos n) r h t b = ap pos (omega arith)
up_above (negsuc n) r h t b = true_false t

pub stay_above : (w : ℤ) (r : ℕ) → r < divisor → lt_z w (pos 0) ≡ false → r < half → w ≡ figure (pos divisor *ℤ w +ℤ pos r)
unfolding figure
stay_above (pos n) r h t b = ap pos (omega arith)
stay_above (negsuc n) r h t b = true_false t

pub up_below : (w : ℤ) (r : ℕ) → r < divisor → lt_z w (pos 0) ≡ true → half < r → w +ℤ pos 1 ≡ figure (pos divisor *ℤ w +ℤ pos r)
up_below (pos n) r h t b = absurd (omega (arith, leb-true (suc n) 0 t))
up_below (negsuc n) r h t b = one_on n ∙ figure_below n r n h (omega arith)

pub stay_below : (w : ℤ) (r : ℕ) → r < divisor → lt_z w (pos 0) ≡ true → r ≤ half → w ≡ figure (pos divisor *ℤ w +ℤ pos r)
stay_below (pos n) r h t b = absurd (omega (arith, leb-true (suc n) 0 t))
stay_below (negsuc n) r h t b = figure_below n r (suc n) h (omega arith)
