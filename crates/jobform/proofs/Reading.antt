-- A letter and a name at a place: why each way out of their readers is right.
use mathlib.Core.Path.{◌≡◌, sym, ◌∙◌, ap}
use mathlib.Core.List.{List, ◌∷◌}
use Prim.Native.Nat.{ℕ, suc, ◌+◌, ◌≤◌, ◌<◌}
use native.Mathlib.Omega.{arith}
use lib.ListN.{length, drop, get_or, drop_of_length-le}
use lib.Seq.{drop-cons}
use Rattle.std.specs.Prelude.{Option, Some, None}
use Rattle.text.specs.Decimal.{minus}
use Rattle.text.specs.InnerReading.{NumberAt}
use Rattle.lines.specs.Lines.{tab}
use Rattle.heading.specs.Heading.{most_digits}
use Rattle.jobform.specs.JobSheet.{Capital}
use Rattle.jobform.specs.Inner.{LetterAt, NameAt}
use Rattle.jobform.proofs.Parts.{name_number, name_none}

-- ---- a letter

pub untabbed_letter : {l : List ℕ} → ((r : List ℕ) → ¬ (l ≡ tab ∷ r)) → (b : ℕ) (r : List ℕ) → ¬ LetterAt l b r
untabbed_letter none b r a = none (b ∷ r) a.bytes

module _ {l : List ℕ} (s : List ℕ) (c : ℕ) (e : l ≡ tab ∷ drop c s) where
  after_tab : {b : ℕ} {r : List ℕ} → LetterAt l b r → drop c s ≡ b ∷ r
  after_tab {b} {r} a = let f : tab ∷ drop c s ≡ tab ∷ (b ∷ r) = sym e ∙ a.bytes in cc

  pub letter_past : length s ≤ c → (b : ℕ) (r : List ℕ) → ¬ LetterAt l b r
  letter_past h b r a = let f = ap length (sym (drop_of_length-le s h) ∙ after_tab a) in omega arith

  pub other_letter : c < length s → ¬ Capital (get_or s c 0) → (b : ℕ) (r : List ℕ) → ¬ LetterAt l b r
  other_letter h none b r a =
      let f : get_or s c 0 ∷ drop (suc c) s ≡ b ∷ r = sym (drop-cons s c 0 h) ∙ after_tab a in
      let g : b ≡ get_or s c 0 = cc in
      none (rw g at a.capital)

  pub letter_here : c < length s → 65 ≤ get_or s c 0 → get_or s c 0 ≤ 90 → LetterAt l (get_or s c 0) (drop (c + 1) s)
  letter_here h p q =
      let f : suc c ≡ c + 1 = omega arith in
      record { bytes = e ∙ ap (λ x. tab ∷ x) (drop-cons s c 0 h ∙ ap (λ (k : ℕ). get_or s c 0 ∷ drop k s) f); capital = record { least = p; most = q } }

-- ---- a name

pub untabbed_name : {l : List ℕ} → ((r : List ℕ) → ¬ (l ≡ tab ∷ r)) → (n : Option ℕ) (r : List ℕ) → ¬ NameAt l n r
untabbed_name none n r a = none _ a.bytes

module _ {l x : List ℕ} (e : l ≡ tab ∷ x) where
  pub none_named : {r : List ℕ} → x ≡ minus ∷ r → NameAt l None r
  none_named p = record { bytes = e ∙ ap (λ y. tab ∷ y) p; short = tt; ends = tt }

  pub no_name_there : ((r : List ℕ) → ¬ (x ≡ minus ∷ r)) → ((j : ℕ) (r : List ℕ) → ¬ NumberAt most_digits x j r) → (n : Option ℕ) (r : List ℕ) → ¬ NameAt l n r
  no_name_there dash none None r a = dash r (name_none e a)
  no_name_there dash none (Some j) r a = none j r (name_number e a)
