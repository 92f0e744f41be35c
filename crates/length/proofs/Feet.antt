-- Survey feet and international feet side by side, and wrong readers of feet. The survey foot is the longer one, by two parts in a million.
use mathlib.Core.Path.{◌≡◌, refl, sym, ◌∙◌}
use mathlib.Core.Logic.{◌≢◌}
use mathlib.Core.Bool.{true, false}
use Prim.Native.Nat.{ℕ, zero, suc, ◌+◌, ◌*◌, ◌≤◌, ◌<◌}
use native.Mathlib.Nat.{le-div_iff_mul-le, mul-le-mul, mul-pos, le_refl}
use native.Mathlib.Omega.{arith}
use lib.IntN.{ℤ, negsuc}
use lib.Ieee.{Float, nan, inf, fin, up, down, round, mul, div}
use lib.Ieee.Fits.{down_pos}
use Rattle.std.specs.Prelude.{Some, None}
use Rattle.length.specs.declared.Length.TheVariants.{Feet, Centimetres, InternationalFeet}
use Rattle.length.specs.Limit.{rounded_down, most_limit, capped, reading, limit_of}
use Rattle.length.proofs.Quotient.{capped_usable, capped_above}
use Rattle.length.proofs.Laws.{usable, Cap, within, beyond, cap}
use Rattle.length.proofs.Figures.{nearest, slip}

-- a figure comes to c whole centimetres or more exactly when c is no more than its exact value
reaches : (c m : ℕ) (e : ℤ) (num den : ℕ) → 0 < den → (c ≤ rounded_down m e num den → c * (down e * den) ≤ m * up e * num) × (c * (down e * den) ≤ m * up e * num → c ≤ rounded_down m e num den)
reaches c m e num den h = le-div_iff_mul-le (mul-pos (down_pos e) h)

module _ (m : ℕ) (e : ℤ) where
  abbrev survey : ℕ
  survey = rounded_down m e 120000 3937

  abbrev international : ℕ
  international = rounded_down m e 3048 100

  survey_from : (c : ℕ) → c * (down e * 3937) ≤ m * up e * 120000 → c ≤ survey
  survey_from c = (reaches c m e 120000 3937 (omega arith)).1

  -- the longer foot gives no less
  no_less : international ≤ survey
  no_less = survey_from international (longer international (down e) (m * up e) ((reaches international m e 3048 100 (omega arith)).0 (le_refl international)))
    where
      longer : (d q p : ℕ) → d * (q * 100) ≤ p * 3048 → d * (q * 3937) ≤ p * 120000
      longer d q p h = omega (arith, h)

  -- and where it is usable, one more at most
  one_more : survey ≤ most_limit → survey ≤ international + 1
  one_more = go survey (le_refl survey)
    where
      shorter : (c q p : ℕ) → (c + 1) * (q * 3937) ≤ p * 120000 → c * q ≤ most_limit * q → c * (q * 100) ≤ p * 3048
      shorter c q p h h' = omega (arith, h, h')

      go : (c : ℕ) → c ≤ survey → c ≤ most_limit → c ≤ international + 1
      go zero h h' = omega arith
      go (suc c) h h' =
          let k : c ≤ international = (reaches c m e 3048 100 (omega arith)).1 (shorter c (down e) (m * up e) ((reaches (c + 1) m e 120000 3937 (omega arith)).0 (omega (arith, h))) (mul-le-mul (omega arith) (le_refl (down e)))) in
          omega arith

-- whatever survey feet take, international feet take, as the same or as one centimetre less: nothing is usable in survey feet alone
pub international_takes : (v : Float) {c : ℕ} → limit_of (Feet v) ≡ Some c → (d : ℕ) × (limit_of (InternationalFeet v) ≡ Some d) × (d ≤ c) × (c ≤ d + 1)
unfolding limit_of reading
international_takes nan p = absurd (usable p)
international_takes (inf s) p = absurd (usable p)
international_takes (fin true zero e) {c} p = let z : 0 ≡ c = cc in (0, refl, omega arith, omega arith)
international_takes (fin true (suc m) e) p = absurd (usable p)
international_takes (fin false m e) {c} p = go (cap (survey m e))
  where
    go : Cap (survey m e) → (d : ℕ) × (capped (international m e) ≡ Some d) × (d ≤ c) × (c ≤ d + 1)
    go (within h q) =
        let z : survey m e ≡ c = cc in
        (international m e, capped_usable (omega (arith, no_less m e)), omega (arith, no_less m e), omega (arith, one_more m e h))
    go (beyond h q) = absurd (usable (sym q ∙ p))

-- a finite figure with the sign clear is unusable in survey feet exactly from 6,561.699475 on, where 200,001 cm begin
pub survey_end : (m : ℕ) (e : ℤ) → (limit_of (Feet (fin false m e)) ≡ None → 6561699475 * down e ≤ m * up e * 1000000) × (6561699475 * down e ≤ m * up e * 1000000 → limit_of (Feet (fin false m e)) ≡ None)
unfolding limit_of reading
survey_end m e = (λ p. told (cap (survey m e)) p, λ h. capped_above (survey_from m e (most_limit + 1) (scaled (down e) (m * up e) h)))
  where
    scaled : (q p : ℕ) → 6561699475 * q ≤ p * 1000000 → (most_limit + 1) * (q * 3937) ≤ p * 120000
    scaled q p h = omega (arith, h)

    back : (q p : ℕ) → (most_limit + 1) * (q * 3937) ≤ p * 120000 → 6561699475 * q ≤ p * 1000000
    back q p h = omega (arith, h)

    told : Cap (survey m e) → capped (survey m e) ≡ None → 6561699475 * down e ≤ m * up e * 1000000
    told (within h q) p = absurd (usable (sym p ∙ q))
    told (beyond h q) p = back (down e) (m * up e) ((reaches (most_limit + 1) m e 120000 3937 (omega arith)).0 (omega (arith, h)))

-- ---- wrong readers, each by a figure on which it does not answer what `read_limit` ensures

other : (a b : ℕ) → a ≢ b → Some a ≢ Some b
other a b h p = let z : a ≡ b = cc in h z

-- goes on taking a foot for 30.48 cm
pub old_foot_kept : limit_of (Feet (nearest 656125 100)) ≢ reading (nearest 656125 100) 3048 100
unfolding limit_of reading capped round
old_foot_kept = other 199987 199986 (omega arith)

-- takes international feet for survey feet too
pub one_foot_for_both : limit_of (InternationalFeet (nearest 656125 100)) ≢ reading (nearest 656125 100) (1200 * 100) 3937
unfolding limit_of reading capped round
one_foot_for_both = other 199986 199987 (omega arith)

-- asks 1 of the old foot, by which 6,561.7 is usable, and answers by the new one
pub asks_of_old_foot : (reading (nearest 65617 10) 3048 100 ≡ Some 200000) × (limit_of (Feet (nearest 65617 10)) ≢ Some (rounded_down 7214665447977779 (negsuc 39) (1200 * 100) 3937))
unfolding limit_of reading capped round
asks_of_old_foot = (refl, usable)

-- takes a survey foot for 30.48006 cm, as tables have it
pub foot_from_a_table : limit_of (Feet (nearest 3937 1)) ≢ reading (nearest 3937 1) 3048006 100000
unfolding limit_of reading capped round
foot_from_a_table = other 120000 119999 (omega arith)

-- multiplies as a float: times 1200, over 3937, times 100
pub foot_as_float : limit_of (Feet (nearest 3937 1000)) ≢ limit_of (Centimetres (slip (nearest 3937 1000)))
unfolding limit_of reading capped round mul div
foot_as_float = other 119 120 (omega arith)
