-- What 64 bits say, and with it each way out of the reader. A figure's reading hangs on its exact value alone (`by_value`, `by_negative`), and
-- a pattern's exact value is its digits times a power of two over 2 ^ 1074 (`exact`).
use mathlib.Core.Path.{◌≡◌, refl, sym, ◌∙◌, ap, subst}
use mathlib.Core.Logic.{◌≢◌}
use mathlib.Core.Bool.{Bool, true, false, true≢false, false≢true, not, cond}
use Prim.Native.Nat.{ℕ, zero, suc, ◌+◌, ◌-◌, ◌*◌, ◌/◌, ◌%◌, ◌^◌, ◌≤◌, ◌<◌}
use native.Mathlib.Nat.{zero-mul, mul-pos, mod-eq_of_lt}
use native.Mathlib.Omega.{arith}
use native.Mathlib.Decide.{ℕ_discrete}
use lib.Dec.{T, eqb}
use lib.Pow.{pow-add, pow_pos, pow_mono}
use lib.Ieee.{Float, nan, inf, fin, binary64, up, down, odd, of_fields, of_bits, is_nan, ne}
use lib.Ieee.Exact.{HasValue, odd_sign}
use lib.Ieee.Fits.{down_pos}
use lib.Ieee.Nearest.{div_same}
use lib.Ieee.Compare.{differs_from_itself, nan_differs}
use borrow.Author.Tests.{eq-eqb, ne_eqb, le-leb, lt-leb}
use Rattle.std.specs.Prelude.{Some, None}
use Rattle.length.specs.Limit.{capped, reading}
use Rattle.length.specs.InnerSmall.{Small}
use Rattle.length.proofs.Quotient.{cut_once, gone, too_large, product, capped_usable, capped_above}

-- ---- a reading hangs on the exact value a / c alone

pub by_value : (v : Float) (a c n d : ℕ) → 0 < c → 0 < d → HasValue v false a c → reading v n d ≡ capped (a * n / (c * d))
unfolding reading
by_value nan a c n d hc hd h = absurd h
by_value (inf s) a c n d hc hd h = absurd h
by_value (fin true m e) a c n d hc hd h = absurd (true≢false h.0)
by_value (fin false m e) a c n d hc hd h =
    ap capped
    (div_same (m * up e * n) (down e * d) (a * n) (c * d) (mul-pos (down_pos e) hd) (mul-pos hc hd)
    (spread (m * up e) (down e) h.1))
  where
    spread : (p q : ℕ) → p * c ≡ a * q → p * n * (c * d) ≡ a * n * (q * d)
    spread p q e = omega (arith, ap (λ (z : ℕ). z * (n * d)) e)

pub by_negative : (v : Float) (a c n d : ℕ) → 0 < a → HasValue v true a c → reading v n d ≡ None
unfolding reading
by_negative nan a c n d ha h = absurd h
by_negative (inf s) a c n d ha h = absurd h
by_negative (fin false m e) a c n d ha h = absurd (false≢true h.0)
by_negative (fin true zero e) a c n d ha h = absurd (omega (arith, simp zero-mul at h.1, mul-pos ha (down_pos e)))
by_negative (fin true (suc m) e) a c n d ha h = refl

-- ---- the exact value of a pattern, by its sign s, the exponent's field x and the digits t below the leading one

-- the digits with the leading one, which a field of 0 has not
abbrev pub whole : ℕ → ℕ → ℕ
whole x t = cond (eqb x 0) t (2 ^ 52 + t)

pub exact : (s : Bool) (x t : ℕ) → x ≢ 2047 → HasValue (of_fields binary64 s x t) s (whole x t * 2 ^ (x - 1)) (2 ^ 1074)
unfolding of_fields
exact s zero t h = odd_sign 53 s t 0 1074
exact s (suc x) t h =
    let e : suc x - 1 ≡ x = omega arith in
    let z : suc x ≢ 0 = omega arith in
    rw (ne_eqb (suc x) 2047 h, ne_eqb (suc x) 0 z, e) (odd_sign 53 s (2 ^ 52 + t) x 1074)

-- a field of all ones is an infinity or a NaN
not_finite : (s : Bool) (t n d : ℕ) → reading (of_fields binary64 s 2047 t) n d ≡ None
unfolding of_fields reading
not_finite s t n d = go (eqb t 0)
  where
    go : (b : Bool) → reading (cond b (inf s) nan) n d ≡ None
    go true = refl
    go false = refl

-- ---- a pattern with the sign set: minus zero, and below zero

pub minus_zero : (b n d : ℕ) → b ≡ 2 ^ 63 → reading (of_bits binary64 b) n d ≡ Some 0
unfolding reading of_bits of_fields odd
minus_zero b n d e = rw e

pub negative : (b n d : ℕ) → 2 ^ 63 < b → b < 2 ^ 64 → reading (of_bits binary64 b) n d ≡ None
unfolding of_bits
negative b n d h h' = rw (le-leb (2 ^ 63) b (omega arith)) (go (b % 2 ^ 63 / 2 ^ 52) (b % 2 ^ 52) (omega arith) (ℕ_discrete (b % 2 ^ 63 / 2 ^ 52) 2047))
  where
    some : (x t : ℕ) → 0 < x * 2 ^ 52 + t → 0 < whole x t
    some zero t g = omega arith
    some (suc x) t g = let z : suc x ≢ 0 = omega arith in rw (ne_eqb (suc x) 0 z) (omega arith)

    go : (x t : ℕ) → 0 < x * 2 ^ 52 + t → Dec (x ≡ 2047) → reading (of_fields binary64 true x t) n d ≡ None
    go x t g (yes e) = rw e (not_finite true t n d)
    go x t g (no ne) = by_negative _ _ (2 ^ 1074) n d (mul-pos (some x t g) (pow_pos (x - 1))) (exact true x t ne)

-- ---- a pattern with the sign clear

pub positive : (b n d : ℕ) → b < 2 ^ 63 → reading (of_bits binary64 b) n d ≡ reading (of_fields binary64 false (b / 2 ^ 52) (b % 2 ^ 52)) n d
unfolding of_bits
positive b n d h = rw (lt-leb (2 ^ 63) b h, mod-eq_of_lt h)

-- the reader's ways out, in a unit of num * 2 ^ up / den
module _ (x t : ℕ) {num up den : ℕ} (ht : t < 2 ^ 52) (u : Small num up den) where
  finite : x ≢ 2047 → reading (of_fields binary64 false x t) (num * 2 ^ up) den ≡ capped (whole x t * 2 ^ (x - 1) * (num * 2 ^ up) / (2 ^ 1074 * den))
  finite h = by_value _ _ (2 ^ 1074) (num * 2 ^ up) den (pow_pos 1074) u.den_some (exact false x t h)

  pub fits : (2 ^ 52 + t) * num < 2 ^ 64
  fits = product (2 ^ 52 + t) num (omega arith) u.num_below

  -- no leading digit: 64 bits and more are cut
  pub at_zero : x ≡ 0 → reading (of_fields binary64 false x t) (num * 2 ^ up) den ≡ Some 0
  at_zero e =
      finite (omega arith)
      ∙ rw (eq-eqb x 0 e)
      (ap capped (cut_once t num den (x - 1) up (1074 - up) 1074 (omega arith) ∙ gone (t * num) (1074 - up) den (product t num (omega arith) u.num_below) (omega arith)))
      ∙ capped_usable (omega arith)

  -- nothing is cut
  pub at_top : 1075 - up ≤ x → reading (of_fields binary64 false x t) (num * 2 ^ up) den ≡ None
  at_top h = go (ℕ_discrete x 2047)
    where
      turn : (q p n r : ℕ) → q * p * (n * r) ≡ q * (p * r) * n
      turn q p n r = omega arith

      go : Dec (x ≡ 2047) → reading (of_fields binary64 false x t) (num * 2 ^ up) den ≡ None
      go (yes e) = rw e (not_finite false t (num * 2 ^ up) den)
      go (no ne) =
          finite ne
          ∙ rw (ne_eqb x 0 (λ e. omega arith), turn (2 ^ 52 + t) (2 ^ (x - 1)) num (2 ^ up), ← pow-add 2 (x - 1) up)
          (capped_above (too_large (2 ^ 52 + t) num den (2 ^ 1074) (2 ^ (x - 1 + up)) (pow_pos 1074) (pow_mono {i = 1074} {j = x - 1 + up} (omega arith)) (omega arith) u.num_some u.den_some))

  module _ (h0 : x ≢ 0) (h1 : x < 1075 - up) where
    pub some_cut : reading (of_fields binary64 false x t) (num * 2 ^ up) den ≡ capped ((2 ^ 52 + t) * num / 2 ^ (1075 - up - x) / den)
    some_cut = finite (omega arith) ∙ rw (ne_eqb x 0 h0) (ap capped (cut_once (2 ^ 52 + t) num den (x - 1) up (1075 - up - x) 1074 (omega arith)))

    pub all_cut : 64 ≤ 1075 - up - x → reading (of_fields binary64 false x t) (num * 2 ^ up) den ≡ Some 0
    all_cut h = some_cut ∙ ap capped (gone _ (1075 - up - x) den fits h) ∙ capped_usable (omega arith)

-- ---- a NaN, by the test v != v

pub no_nan : (v : Float) → ne v v ≡ false → T (not (is_nan v))
unfolding is_nan
no_nan nan h = absurd (true≢false (sym nan_differs ∙ h))
no_nan (inf s) h = tt
no_nan (fin s m e) h = tt

pub is_nan_lem : (v : Float) (n d : ℕ) → ne v v ≡ true → reading v n d ≡ None
unfolding reading
is_nan_lem v n d h = rw (differs_from_itself v (subst T (sym h) tt))
