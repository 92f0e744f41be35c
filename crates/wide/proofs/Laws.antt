-- Whole parts and rests over ℤ: what a bound comes to, and that every sum has one whole part and one rest.
use mathlib.Core.Path.{◌≡◌, sym, ◌∙◌, ap}
use Prim.Native.Nat.{ℕ, suc, ◌+◌, ◌-◌, ◌*◌, ◌/◌, ◌%◌, ◌≤◌, ◌<◌}
use native.Mathlib.Omega.{arith}
use lib.IntN.{ℤ, pos, negsuc, neg_ℤ, ◌+ℤ◌, ◌-ℤ◌, ◌*ℤ◌, nat_abs, pos-ne-negsuc, +ℤ_comm}
use Rattle.ints.proofs.Ints.{abs_neg, minus_back, pos_minus}
use Rattle.wide.specs.declared.Wide.{Wide}
use Rattle.wide.specs.Rounding.{divisor}
use Rattle.wide.specs.Wide.{value, Exact}
use Rattle.wide.specs.Inner.{most_whole, most_wide, Fits}

-- ---- below zero the rest takes away from the size

pub below_zero_lem : (n r : ℕ) → r < divisor → pos divisor *ℤ negsuc n +ℤ pos r ≡ neg_ℤ (pos (divisor * suc n - r))
below_zero_lem n r h =
    +ℤ_comm (neg_ℤ (pos (divisor * suc n))) (pos r)
    ∙ sym (minus_back (pos (divisor * suc n)) (pos r))
    ∙ ap neg_ℤ (pos_minus (divisor * suc n) r (omega arith))

size_below : (n r : ℕ) → r < divisor → nat_abs (pos divisor *ℤ negsuc n +ℤ pos r) ≡ divisor * suc n - r
size_below n r h = ap nat_abs (below_zero_lem n r h) ∙ abs_neg (pos (divisor * suc n - r))

-- ---- bounds

whole_within : (w : ℤ) (r : ℕ) → r < divisor → nat_abs (pos divisor *ℤ w +ℤ pos r) ≤ most_wide → nat_abs w ≤ most_whole
whole_within (pos n) r h s = omega arith
whole_within (negsuc n) r h s = omega (arith, size_below n r h)

pub whole_size : {w : Wide} → Fits w → nat_abs w.whole ≤ most_whole
whole_size {w} f = whole_within w.whole w.rest f.below f.size

-- what a caller shows of a sum that it has: its bound
pub fits_within : {z : ℤ} {w : Wide} → Exact z w → nat_abs z ≤ most_wide → Fits w
fits_within e b = record { below = e.below; size = rw e.is b }

-- ---- what `add` and `less` ensure, of sums that are known

module _ {x y : ℤ} {a b r : Wide} (p : Exact x a) (q : Exact y b) where
  pub exact_plus : Exact (value a +ℤ value b) r → Exact (x +ℤ y) r
  exact_plus e = record { is = e.is ∙ (λ i. p.is i +ℤ q.is i); below = e.below }

  pub exact_minus : Exact (value a -ℤ value b) r → Exact (x -ℤ y) r
  exact_minus e = record { is = e.is ∙ (λ i. p.is i -ℤ q.is i); below = e.below }

-- ---- every sum has a whole part and a rest

pub split : ℤ → Wide
split (pos n) = record { whole = pos (n / divisor); rest = n % divisor }
split (negsuc n) = record { whole = negsuc (n / divisor); rest = divisor - 1 - n % divisor }

pub exact_there : (z : ℤ) → Exact z (split z)
unfolding split
exact_there (pos n) = record { is = ap pos (omega arith); below = omega arith }
exact_there (negsuc n) =
    let k : divisor * suc (n / divisor) - (divisor - 1 - n % divisor) ≡ suc n = omega arith in
    record { is = below_zero_lem (n / divisor) (divisor - 1 - n % divisor) (omega arith) ∙ ap (λ (m : ℕ). neg_ℤ (pos m)) k; below = omega arith }

-- ---- and no second

apart : (a b : ℕ) → 0 < b → pos a ≡ neg_ℤ (pos b) → ⊥
apart a (suc b) h e = pos-ne-negsuc a b e
apart a Prim.Native.Nat.zero h e = elim h [ ]

same_sum : (w v : ℤ) (r s : ℕ) → r < divisor → s < divisor → pos divisor *ℤ w +ℤ pos r ≡ pos divisor *ℤ v +ℤ pos s → (w ≡ v) × (r ≡ s)
same_sum (pos n) (pos m) r s h k e =
    let t : divisor * n + r ≡ divisor * m + s = ap nat_abs e in
    (ap pos (omega arith), omega arith)
same_sum (negsuc n) (negsuc m) r s h k e =
    let t : divisor * suc n - r ≡ divisor * suc m - s = sym (size_below n r h) ∙ ap nat_abs e ∙ size_below m s k in
    (ap negsuc (omega arith), omega arith)
same_sum (pos n) (negsuc m) r s h k e = absurd (apart (divisor * n + r) (divisor * suc m - s) (omega arith) (e ∙ below_zero_lem m s k))
same_sum (negsuc n) (pos m) r s h k e = absurd (apart (divisor * m + s) (divisor * suc n - r) (omega arith) (sym e ∙ below_zero_lem n r h))

pub exact_one : {z : ℤ} {w v : Wide} → Exact z w → Exact z v → w ≡ v
exact_one {z} {w} {v} p q =
    let b = same_sum w.whole v.whole w.rest v.rest p.below q.below (p.is ∙ sym q.is) in
    λ i. record { whole = b.0 i; rest = b.1 i }
