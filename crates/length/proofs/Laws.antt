-- A typed length has one reading: unusable exactly when 01 says so, and else at most `most_limit`.
use mathlib.Core.Path.{◌≡◌, refl, sym, ◌∙◌, ap}
use mathlib.Core.Logic.{◌≢◌, ◌⊎◌, inl, inr}
use mathlib.Core.Bool.{true, false}
use mathlib.Core.List.{[], ◌∷◌}
use Prim.Native.Nat.{ℕ, zero, suc, ◌≤◌, ◌<◌}
use native.Mathlib.Decide.{dec_le}
use native.Mathlib.Omega.{arith}
use lib.IntN.{ℤ, pos}
use lib.Ieee.{Float, nan, inf, fin}
use Rattle.std.specs.Prelude.{Some, None, Option}
use Rattle.refusal.specs.Told.{done, refused}
use Rattle.refusal.specs.declared.Refusal.TheVariants.{LimitUnusable}
use Rattle.length.specs.declared.Length.{Length}
use Rattle.length.specs.Limit.{Typed, typed, rounded_down, most_limit, capped, reading, limit_of, Unfit, no_number, infinite, below_zero_lem, above}
use Rattle.length.specs.Answer.{told}
use Rattle.length.proofs.Quotient.{capped_usable, capped_above}

-- no second answer meets the words of `read_limit`
pub reading_one : (l : Length) {r s : Option ℕ} → r ≡ limit_of l → s ≡ limit_of l → r ≡ s
reading_one l p q = p ∙ sym q

-- usable is not unusable
pub usable : {c : ℕ} → None ≢ Some c
usable p = let z : ◌≡◌ {A = ℕ} 0 1 = cc in omega arith

-- c centimetres are a limit or too many
pub data Cap (c : ℕ) : Type 0 where
  within : c ≤ most_limit → capped c ≡ Some c → Cap c
  beyond : most_limit < c → capped c ≡ None → Cap c

pub cap : (c : ℕ) → Cap c
cap c = go (dec_le c most_limit)
  where
    go : Dec (c ≤ most_limit) → Cap c
    go (yes h) = within h (capped_usable h)
    go (no h) = beyond (omega arith) (capped_above (omega arith))

module _ (num den : ℕ) where
  -- a figure below zero is unusable
  minus : (m : ℕ) (e : ℤ) → 0 < m → reading (fin true m e) num den ≡ None
  unfolding reading
  minus zero e h = absurd (omega arith)
  minus (suc m) e h = refl

  most : (v : Float) {c : ℕ} → reading v num den ≡ Some c → c ≤ most_limit
  unfolding reading
  most nan p = absurd (usable p)
  most (inf s) p = absurd (usable p)
  most (fin true zero e) {c} p = let z : 0 ≡ c = cc in omega arith
  most (fin true (suc m) e) p = absurd (usable p)
  most (fin false m e) {c} p = go (cap (rounded_down m e num den))
    where
      go : Cap (rounded_down m e num den) → c ≤ most_limit
      go (within h q) = let z : rounded_down m e num den ≡ c = cc in omega arith
      go (beyond h q) = absurd (usable (sym q ∙ p))

unfit : (t : Typed) (v : Float) → t.figure ≡ v → reading v t.num t.den ≡ None → Unfit t
unfolding reading
unfit t nan f p = no_number f
unfit t (inf s) f p = infinite f
unfit t (fin true zero e) f p = absurd (usable (sym p))
unfit t (fin true (suc m) e) f p = below_zero_lem f (omega arith)
unfit t (fin false m e) f p = go (cap (rounded_down m e t.num t.den))
  where
    go : Cap (rounded_down m e t.num t.den) → Unfit t
    go (within h q) = absurd (usable (sym p ∙ q))
    go (beyond h q) = above f h

unusable : (t : Typed) → Unfit t → reading t.figure t.num t.den ≡ None
unfolding reading
unusable t (no_number f) = rw f
unusable t (infinite f) = rw f
unusable t (below_zero_lem {m} {e} f h) = rw f (minus t.num t.den m e h)
unusable t (above f h) = rw f (capped_above h)

-- the limit is unusable exactly when 01's words say so
pub unusable_exactly : (l : Length) → (limit_of l ≡ None → Unfit (typed l)) × (Unfit (typed l) → limit_of l ≡ None)
unfolding limit_of
unusable_exactly l = (unfit (typed l) (typed l).figure refl, unusable (typed l))

-- a usable limit is at most 200,000
pub limit_most : (l : Length) {c : ℕ} → limit_of l ≡ Some c → c ≤ most_limit
unfolding limit_of
limit_most l = most (typed l).num (typed l).den (typed l).figure

-- the answer tells 1 exactly when the limit is unusable in 01's words, and else 0 and the whole centimetres
pub limit_told : (l : Length) →
    (Unfit (typed l) × (told (limit_of l) ≡ refused LimitUnusable)) ⊎ ((¬ Unfit (typed l)) × (c : ℕ) × (limit_of l ≡ Some c) × (told (limit_of l) ≡ done (pos c ∷ [])))
limit_told l = go (limit_of l) refl
  where
    go : (r : Option ℕ) → limit_of l ≡ r →
        (Unfit (typed l) × (told (limit_of l) ≡ refused LimitUnusable)) ⊎ ((¬ Unfit (typed l)) × (c : ℕ) × (limit_of l ≡ Some c) × (told (limit_of l) ≡ done (pos c ∷ [])))
    go None e = inl ((unusable_exactly l).0 e, ap told e)
    go (Some c) e = inr (λ u. usable (sym ((unusable_exactly l).1 u) ∙ e), c, e, ap told e)
