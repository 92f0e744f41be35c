-- What the figure of a sum is: the only nearest whole, a half going away from zero, on both sides of zero alike.
-- Each law is shown at or above zero, and carried to the other side by the sign.
use mathlib.Core.Path.{◌≡◌, refl, sym, ◌∙◌, ap}
use Prim.Native.Nat.{ℕ, zero, suc, ◌+◌, ◌-◌, ◌*◌, ◌/◌, ◌%◌, ◌≤◌, ◌<◌}
use native.Mathlib.Decide.{ℕ_discrete}
use native.Mathlib.Omega.{arith}
use lib.IntN.{ℤ, pos, negsuc, neg_ℤ, ◌-ℤ◌, ◌*ℤ◌, nat_abs, neg_ℤ-neg_ℤ}
use Rattle.ints.proofs.Ints.{abs_neg, abs_diff, abs_across, times_neg, minus_neg}
use Rattle.wide.specs.Rounding.{divisor, half, to_nearest, figure, change, Nearest, WithinHalf}

-- ---- the sign

pub figure_neg : (s : ℤ) → figure (neg_ℤ s) ≡ neg_ℤ (figure s)
unfolding figure
figure_neg (pos zero) = refl
figure_neg (pos (suc n)) = refl
figure_neg (negsuc n) = sym (neg_ℤ-neg_ℤ (pos (to_nearest (suc n))))

off_neg : (s f : ℤ) → nat_abs (pos divisor *ℤ neg_ℤ f -ℤ neg_ℤ s) ≡ nat_abs (pos divisor *ℤ f -ℤ s)
off_neg s f = ap (λ (z : ℤ). nat_abs (z -ℤ neg_ℤ s)) (times_neg (pos divisor) f) ∙ ap nat_abs (minus_neg (pos divisor *ℤ f) s) ∙ abs_neg (pos divisor *ℤ f -ℤ s)

nearest_neg : {s f : ℤ} → Nearest s f → Nearest (neg_ℤ s) (neg_ℤ f)
nearest_neg {s} {f} h =
    let e = off_neg s f in
    record { near = rw e h.near; away = λ d. rw (abs_neg s, abs_neg f) (h.away (ap (λ (k : ℕ). 2 * k) (sym e) ∙ d)) }

-- ---- the figure is the nearest

above_nearest : (n : ℕ) → Nearest (pos n) (pos (to_nearest n))
above_nearest n = let d = abs_diff (divisor * to_nearest n) n in record { near = omega arith; away = λ e. omega arith }

pub figure_nearest : (s : ℤ) → Nearest s (figure s)
unfolding figure
figure_nearest (pos n) = above_nearest n
figure_nearest (negsuc n) = nearest_neg (above_nearest (suc n))

-- demand 3: within half a cubic metre
pub figure_near : (s : ℤ) → WithinHalf s (figure s)
figure_near s = (figure_nearest s).near

-- a half goes away from zero, on both sides
pub figure_half : (n : ℕ) → n % divisor ≡ half → (figure (pos n) ≡ pos (n / divisor + 1)) × (figure (neg_ℤ (pos n)) ≡ neg_ℤ (pos (n / divisor + 1)))
unfolding figure
figure_half n e = let up : figure (pos n) ≡ pos (n / divisor + 1) = ap pos (omega arith) in (up, figure_neg (pos n) ∙ ap neg_ℤ up)

-- how large a figure can be
pub figure_size : (s : ℤ) (B : ℕ) → nat_abs s ≤ B → nat_abs (figure s) ≤ to_nearest B
unfolding figure
figure_size (pos n) B h = omega arith
figure_size (negsuc n) B h = omega (arith, abs_neg (pos (to_nearest (suc n))))

-- ---- and the only one

size_one : (n q : ℕ) → 2 * ((divisor * q - n) + (n - divisor * q)) ≤ divisor → (2 * ((divisor * q - n) + (n - divisor * q)) ≡ divisor → n < divisor * q) → q ≡ to_nearest n
size_one n q near away = go (ℕ_discrete (2 * ((divisor * q - n) + (n - divisor * q))) divisor)
  where
    go : Dec (2 * ((divisor * q - n) + (n - divisor * q)) ≡ divisor) → q ≡ to_nearest n
    go (yes e) = omega (arith, away e)
    go (no ne) = omega (arith, ne)

above_one : (n : ℕ) (f : ℤ) → Nearest (pos n) f → f ≡ figure (pos n)
unfolding figure
above_one n (pos q) h =
    let d = abs_diff (divisor * q) n in
    ap pos (size_one n q (omega (arith, h.near)) (λ e. h.away (ap (λ (k : ℕ). 2 * k) d ∙ e)))
above_one n (negsuc q) h = absurd (omega (arith, h.near, abs_across (divisor * suc q) n))

pub nearest_one : (s f : ℤ) → Nearest s f → f ≡ figure s
nearest_one (pos n) f h = above_one n f h
nearest_one (negsuc n) f h =
    sym (neg_ℤ-neg_ℤ f) ∙ ap neg_ℤ (above_one (suc n) (neg_ℤ f) (nearest_neg h)) ∙ sym (figure_neg (pos (suc n)))

-- ---- changes

-- the change is within half of the exact one
pub change_near : (earlier later : ℤ) → WithinHalf (later -ℤ earlier) (change earlier later)
change_near earlier later = figure_near (later -ℤ earlier)
