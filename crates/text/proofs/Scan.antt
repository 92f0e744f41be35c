-- A number is read digit by digit: what holds between two digits, and why each way out is right.
use mathlib.Core.Path.{◌≡◌, sym, ◌∙◌, ap, subst}
use mathlib.Core.List.{List, [], ◌∷◌, ◌++◌, append_assoc}
use Prim.Native.Nat.{ℕ, ◌+◌, ◌-◌, ◌*◌, ◌^◌, ◌≤◌, ◌<◌}
use native.Mathlib.Omega.{arith}
use lib.ListN.{length, length-append, drop}
use Rattle.text.specs.Decimal.{digit, decimal}
use Rattle.text.specs.Inner.{NoDigit}
use Rattle.text.specs.InnerReading.{NumberAt, Standing}
use Rattle.text.proofs.Digits.{decimal_one, decimal_more, AllDigits, is_digit, one_more, all_digits, head, digits_below, Left, left, same_digits}

-- ---- no number stands there

-- digits that l begins with are the first ones of a number that stands there
pub begins : {most w : ℕ} {l r : List ℕ} (ds x : List ℕ) → AllDigits ds → l ≡ ds ++ x → NumberAt most l w r → Left ds (decimal w) x r
begins {w = w} {r = r} ds x a e n = left ds (decimal w) x r a n.ends (sym e ∙ n.bytes)

pub none_there : {most w : ℕ} {l r : List ℕ} → NoDigit l → NumberAt most l w r → ⊥
none_there {w = w} {l = l} {r = r} h n =
    let k = head w in
    let e : l ≡ k.b ∷ (k.rest ++ r) = n.bytes ∙ ap (λ x. x ++ r) k.is in
    let d : AllDigits (k.b ∷ k.rest) = subst AllDigits k.is (all_digits w) in
    subst NoDigit e h d.0

-- ---- between two digits

-- v is what the digits from at to i say
pub record Scanned (most : ℕ) (s : List ℕ) (at v i : ℕ) : Type 0 where
  pub bytes : drop at s ≡ decimal v ++ drop i s
  pub place : i ≡ at + length (decimal v)
  pub short : length (decimal v) ≤ most

module _ (most : ℕ) (s : List ℕ) (at v : ℕ) where
  pub scan_start : 0 < most → Standing s at v → Scanned most s at v (at + 1)
  scan_start m d =
      let e = decimal_one v d.below in
      let k = ap length e in
      record { bytes = d.here ∙ ap (λ x. x ++ drop (at + 1) s) (sym e); place = omega arith; short = omega arith }

  module _ (i : ℕ) (sc : Scanned most s at v i) where
    pub scan_end : NoDigit (drop i s) → NumberAt most (drop at s) v (drop i s)
    scan_end h = record { bytes = sc.bytes; short = sc.short; ends = h }

    module _ (d : ℕ) (there : Standing s i d) where
      next_bytes : drop at s ≡ decimal v ++ (digit d ∷ []) ++ drop (i + 1) s
      next_bytes = sc.bytes ∙ ap (λ x. decimal v ++ x) there.here ∙ sym (append_assoc (decimal v) (digit d ∷ []) (drop (i + 1) s))

      next_digits : AllDigits (decimal v ++ (digit d ∷ []))
      next_digits = one_more (decimal v) (digit d) (all_digits v) (is_digit d there.below)

      -- a needless zero
      pub scan_needless : {w : ℕ} {r : List ℕ} → v ≡ 0 → NumberAt most (drop at s) w r → ⊥
      scan_needless {w} {r} z n =
          let k = begins (decimal v ++ (digit d ∷ [])) (drop (i + 1) s) next_digits next_bytes n in
          let e : decimal v ≡ digit 0 ∷ [] = ap decimal z ∙ decimal_one 0 (omega arith) in
          let f : decimal w ≡ digit 0 ∷ digit d ∷ k.es = k.text ∙ ap (λ x. x ++ (digit d ∷ []) ++ k.es) e in
          let g = head w in
          let b : g.b ≡ digit 0 = cc g.is in
          let y : w ≡ 0 = g.zero_only b in
          let u : decimal w ≡ digit 0 ∷ [] = ap decimal y ∙ decimal_one 0 (omega arith) in
          let q = ap length f in
          let p = ap length u in
          omega arith

      -- too many digits
      pub scan_many : {w : ℕ} {r : List ℕ} → most ≤ i - at → NumberAt most (drop at s) w r → ⊥
      scan_many {w} {r} m n =
          let k = begins (decimal v ++ (digit d ∷ [])) (drop (i + 1) s) next_digits next_bytes n in
          let p = sc.place in
          let q = n.short in
          omega (arith, ap length k.text, length-append (decimal v ++ (digit d ∷ [])) k.es, length-append (decimal v) (digit d ∷ []))

      pub scan_fits : most ≤ 19 → i - at < most → v * 10 + d < 2 ^ 64
      scan_fits m l = let p = sc.place in omega (arith, digits_below v 18 (omega arith))

      -- one digit more
      pub scan_more : (v ≡ 0 → ⊥) → i - at < most → Scanned most s at (v * 10 + d) (i + 1)
      scan_more z l =
          let pos : 0 < v = omega arith in
          let e = decimal_more v d pos there.below in
          let p = sc.place in
          let k = length-append (decimal v) (digit d ∷ []) in
          let f = ap length e in
          record { bytes = next_bytes ∙ ap (λ x. x ++ drop (i + 1) s) (sym e); place = omega arith; short = omega arith }

-- ---- only one number, and one end

pub number_unique : {most : ℕ} {l : List ℕ} {v w : ℕ} {p q : List ℕ} → NumberAt most l v p → NumberAt most l w q → (decimal v ≡ decimal w) × (p ≡ q)
number_unique {v = v} {w = w} {p = p} {q = q} a b = same_digits (decimal v) (decimal w) p q (all_digits v) (all_digits w) a.ends b.ends (sym a.bytes ∙ b.bytes)
