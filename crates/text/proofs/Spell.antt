-- A number is written as its text is defined: all but the last digit, then that.
use mathlib.Core.Path.{◌≡◌, sym, ◌∙◌, ap}
use mathlib.Core.List.{List, [], ◌∷◌, ◌++◌}
use Prim.Native.Nat.{ℕ, suc, ◌+◌, ◌*◌, ◌/◌, ◌%◌, ◌^◌, ◌≤◌, ◌<◌}
use native.Mathlib.Omega.{arith}
use lib.ListN.{length, length-append, set}
use lib.Seq.{sets}
use Rattle.text.specs.Decimal.{digit, decimal}
use Rattle.text.specs.InnerReading.{Written}
use Rattle.text.proofs.Digits.{decimal_one, decimal_more, below_digits}

pub decimal_split : (v : ℕ) → 10 ≤ v → decimal v ≡ decimal (v / 10) ++ (digit (v % 10) ∷ [])
decimal_split v h = let e : v ≡ v / 10 * 10 + v % 10 = omega arith in ap decimal e ∙ decimal_more (v / 10) (v % 10) (omega arith) (omega arith)

pub length_split : (v : ℕ) → 10 ≤ v → length (decimal v) ≡ length (decimal (v / 10)) + 1
length_split v h = ap length (decimal_split v h) ∙ length-append (decimal (v / 10)) (digit (v % 10) ∷ [])

pub length_64 : (v : ℕ) → v < 2 ^ 64 → length (decimal v) ≤ 20
length_64 v h = below_digits v 20 (omega arith) (omega arith)

pub length_63 : (v : ℕ) → v ≤ 2 ^ 63 → length (decimal v) ≤ 19
length_63 v h = below_digits v 19 (omega arith) (omega arith)

set_after : (l : List ℕ) (at : ℕ) (w : List ℕ) (b : ℕ) → set (sets l at w) (at + length w) b ≡ sets l at (w ++ (b ∷ []))
set_after l at [] b = let e : at + 0 ≡ at = omega arith in ap (λ (k : ℕ). set l k b) e
set_after l at (x ∷ w) b =
    let e : at + suc (length w) ≡ suc at + length w = omega arith in
    ap (λ (k : ℕ). set (sets (set l at x) (suc at) w) k b) e ∙ set_after (set l at x) (suc at) w b

pub write_one : (l : List ℕ) (at v : ℕ) → v < 10 → Written l at (decimal v) (at + 1) (set l at (digit v))
write_one l at v h = let e = decimal_one v h in let n = ap length e in record { place = omega arith; text = ap (sets l at) (sym e) }

pub write_more : (l l₁ : List ℕ) (at v r : ℕ) → 10 ≤ v → Written l at (decimal (v / 10)) r l₁ → Written l at (decimal v) (r + 1) (set l₁ r (digit (v % 10)))
write_more l l₁ at v r h w = let n = length_split v h in let p = w.place in record {
  place = omega arith;
  text = (λ i. set (w.text i) (w.place i) (digit (v % 10))) ∙ set_after l at (decimal (v / 10)) (digit (v % 10)) ∙ ap (sets l at) (sym (decimal_split v h));
}

-- a byte, then a text
pub write_after : (l l₁ : List ℕ) (at b r : ℕ) (w : List ℕ) → Written (set l at b) (at + 1) w r l₁ → Written l at (b ∷ w) r l₁
write_after l l₁ at b r w a =
    let e : at + 1 ≡ suc at = omega arith in
    let p = a.place in
    record { place = omega arith; text = a.text ∙ ap (λ (k : ℕ). sets (set l at b) k w) e }
