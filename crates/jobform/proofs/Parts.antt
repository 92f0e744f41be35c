-- The parts of an entry's line: each is read in one way, and together they are the line.
use mathlib.Core.Path.{◌≡◌, refl, sym, ◌∙◌, ap, subst}
use mathlib.Core.List.{List, [], ◌∷◌, ◌++◌, append_assoc}
use Prim.Native.Nat.{ℕ}
use native.Mathlib.Omega.{arith}
use lib.IntN.{ℤ}
use Rattle.std.specs.Prelude.{Option, Some, None}
use Rattle.text.specs.Decimal.{minus, decimal, signed}
use Rattle.text.specs.Inner.{Digit}
use Rattle.text.specs.InnerReading.{NumberAt, SignedAt}
use Rattle.text.proofs.Digits.{decimal_injective}
use Rattle.text.proofs.Scan.{none_there, number_unique}
use Rattle.text.proofs.Signs.{signed_unique}
use Rattle.lines.specs.Lines.{tab, newline}
use Rattle.lines.specs.Inner.{FieldAt}
use Rattle.lines.proofs.Cut.{newline_no_digit}
use Rattle.heading.specs.Heading.{most_digits}
use Rattle.jobform.specs.declared.Entry.{Entry}
use Rattle.jobform.specs.Limits.{most_sum_digits}
use Rattle.jobform.specs.JobSheet.{J, named, entry_line}
use Rattle.jobform.specs.Inner.{LetterAt, Ends, NameAt, EntryAt}

-- ---- one letter, one name, one sum

letter_unique : {l : List ℕ} {b b' : ℕ} {r r' : List ℕ} → LetterAt l b r → LetterAt l b' r' → (b ≡ b') × (r ≡ r')
letter_unique {b = b} {b'} {r} {r'} a c = let f : tab ∷ b ∷ r ≡ tab ∷ b' ∷ r' = sym a.bytes ∙ c.bytes in (cc, cc)

-- a numbered name after its tab
module _ {l x : List ℕ} (e : l ≡ tab ∷ x) where
  pub name_number : {j : ℕ} {r : List ℕ} → NameAt l (Some j) r → NumberAt most_digits x j r
  name_number {j} {r} a = record { bytes = (let f : tab ∷ x ≡ tab ∷ (decimal j ++ r) = sym e ∙ a.bytes in cc); short = a.short; ends = a.ends }

  pub number_name : {j : ℕ} {r : List ℕ} → NumberAt most_digits x j r → NameAt l (Some j) r
  number_name a = record { bytes = e ∙ ap (λ y. tab ∷ y) a.bytes; short = a.short; ends = a.ends }

  pub name_none : {r : List ℕ} → NameAt l None r → x ≡ minus ∷ r
  name_none {r} a = let f : tab ∷ x ≡ tab ∷ (minus ∷ r) = sym e ∙ a.bytes in cc

minus_no_digit : ¬ Digit minus
minus_no_digit d = let h = d.least in omega arith

-- `-` begins no number
two_names : {l : List ℕ} {j : ℕ} {r r' : List ℕ} → NameAt l None r → NameAt l (Some j) r' → ⊥
two_names a c = none_there minus_no_digit (name_number a.bytes c)

name_unique : {l : List ℕ} {r r' : List ℕ} (n n' : Option ℕ) → NameAt l n r → NameAt l n' r' → (n ≡ n') × (r ≡ r')
name_unique {r = r} {r'} None None a c = let f : minus ∷ r ≡ minus ∷ r' = name_none a.bytes c in (refl, cc)
name_unique None (Some j) a c = absurd (two_names a c)
name_unique (Some i) None a c = absurd (two_names c a)
name_unique (Some i) (Some j) a c =
    let u = number_unique (name_number a.bytes a) (name_number a.bytes c) in
    (ap Some (decimal_injective i j u.0), u.1)

sum_unique : {most : ℕ} {l : List ℕ} {z w : ℤ} {r r' : List ℕ} → FieldAt most l z r → FieldAt most l w r' → (z ≡ w) × (r ≡ r')
sum_unique {most} {z = z} {w} {r} {r'} a c =
    let f : tab ∷ (signed z ++ r) ≡ tab ∷ (signed w ++ r') = sym a.bytes ∙ c.bytes in
    let x : SignedAt most (signed z ++ r) z r = record { bytes = refl; short = a.short; ends = a.ends } in
    let y : SignedAt most (signed z ++ r) w r' = record { bytes = cc; short = c.short; ends = c.ends } in
    signed_unique z w x y

-- ---- the line

pub record Parts (l : List ℕ) (e : Entry) (r : List ℕ) : Type 0 where
  pub after_word : List ℕ
  pub after_letter : List ℕ
  pub after_name : List ℕ
  pub word : l ≡ J ++ after_word
  pub letter : LetterAt after_word e.letter after_letter
  pub name : NameAt after_letter e.name after_name
  pub sum : FieldAt most_sum_digits after_name e.sum (newline ∷ r)

entry_after : (e : Entry) (r : List ℕ) → entry_line e ++ r ≡ J ++ (tab ∷ e.letter ∷ tab ∷ (named e.name ++ (tab ∷ (signed e.sum ++ (newline ∷ r)))))
entry_after e r =
    ap (λ x. J ++ (tab ∷ e.letter ∷ tab ∷ x)) (append_assoc (named e.name) (tab ∷ (signed e.sum ++ (newline ∷ []))) r ∙ ap (λ x. named e.name ++ (tab ∷ x)) (append_assoc (signed e.sum) (newline ∷ []) r))

tab_no_digit : ¬ Digit tab
tab_no_digit d = let h = d.least in omega arith

name_ends : (n : Option ℕ) (x : List ℕ) → Ends n (tab ∷ x)
name_ends None x = tt
name_ends (Some j) x = tab_no_digit

pub entry_parts : {l : List ℕ} {e : Entry} {r : List ℕ} → EntryAt l e r → Parts l e r
entry_parts {l} {e} {r} a =
    let f = a.form in
    record {
      after_word = tab ∷ e.letter ∷ tab ∷ (named e.name ++ (tab ∷ (signed e.sum ++ (newline ∷ r))));
      after_letter = tab ∷ (named e.name ++ (tab ∷ (signed e.sum ++ (newline ∷ r))));
      after_name = tab ∷ (signed e.sum ++ (newline ∷ r));
      word = a.bytes ∙ entry_after e r;
      letter = record { bytes = refl; capital = f.capital };
      name = record { bytes = refl; short = f.short_name; ends = name_ends e.name (signed e.sum ++ (newline ∷ r)) };
      sum = record { bytes = refl; short = f.short_sum; ends = newline_no_digit };
    }

pub parts_entry : {l : List ℕ} {e : Entry} {r : List ℕ} → Parts l e r → EntryAt l e r
parts_entry {l} {e} {r} p = record {
  bytes = p.word ∙ ap (λ x. J ++ x) (p.letter.bytes ∙ ap (λ x. tab ∷ e.letter ∷ x) (p.name.bytes ∙ ap (λ x. tab ∷ (named e.name ++ x)) p.sum.bytes)) ∙ sym (entry_after e r);
  form = record { capital = p.letter.capital; short_name = p.name.short; short_sum = p.sum.short };
}

-- ---- what was read so far is what any line there has

pub no_word : {l : List ℕ} → ((r : List ℕ) → ¬ (l ≡ J ++ r)) → (e : Entry) (r : List ℕ) → ¬ EntryAt l e r
no_word none e r a = let p = entry_parts a in none p.after_word p.word

module _ {l x : List ℕ} (word : l ≡ J ++ x) where
  at_word : {e : Entry} {r : List ℕ} (p : Parts l e r) → p.after_word ≡ x
  at_word p = let f : J ++ p.after_word ≡ J ++ x = sym p.word ∙ word in cc

  pub no_letter : ((b : ℕ) (r : List ℕ) → ¬ LetterAt x b r) → (e : Entry) (r : List ℕ) → ¬ EntryAt l e r
  no_letter none e r a = let p = entry_parts a in none e.letter p.after_letter (subst (λ y. LetterAt y e.letter p.after_letter) (at_word p) p.letter)

  module _ {b : ℕ} {y : List ℕ} (letter : LetterAt x b y) where
    at_letter : {e : Entry} {r : List ℕ} (p : Parts l e r) → (e.letter ≡ b) × (p.after_letter ≡ y)
    at_letter {e} p = letter_unique (subst (λ k. LetterAt k e.letter p.after_letter) (at_word p) p.letter) letter

    pub no_name : ((n : Option ℕ) (r : List ℕ) → ¬ NameAt y n r) → (e : Entry) (r : List ℕ) → ¬ EntryAt l e r
    no_name none e r a = let p = entry_parts a in none e.name p.after_name (subst (λ k. NameAt k e.name p.after_name) (at_letter p).1 p.name)

    module _ {n : Option ℕ} {w : List ℕ} (name : NameAt y n w) where
      at_name : {e : Entry} {r : List ℕ} (p : Parts l e r) → (e.name ≡ n) × (p.after_name ≡ w)
      at_name {e} p = name_unique e.name n (subst (λ k. NameAt k e.name p.after_name) (at_letter p).1 p.name) name

      pub no_sum : ((z : ℤ) (r : List ℕ) → ¬ FieldAt most_sum_digits w z r) → (e : Entry) (r : List ℕ) → ¬ EntryAt l e r
      no_sum none e r a = let p = entry_parts a in none e.sum (newline ∷ r) (subst (λ k. FieldAt most_sum_digits k e.sum (newline ∷ r)) (at_name p).1 p.sum)

      module _ {z : ℤ} {v : List ℕ} (sum : FieldAt most_sum_digits w z v) where
        at_sum : {e : Entry} {r : List ℕ} (p : Parts l e r) → (e.sum ≡ z) × (newline ∷ r ≡ v)
        at_sum {e} {r} p = sum_unique (subst (λ k. FieldAt most_sum_digits k e.sum (newline ∷ r)) (at_name p).1 p.sum) sum

        pub no_end : ((r : List ℕ) → ¬ (v ≡ newline ∷ r)) → (e : Entry) (r : List ℕ) → ¬ EntryAt l e r
        no_end none e r a = none r (sym (at_sum (entry_parts a)).1)

        -- the sum as the machine keeps it, k, is the sum
        pub whole_line : {r : List ℕ} {k : ℤ} → z ≡ k → v ≡ newline ∷ r → EntryAt l (record { letter = b; name = n; sum = k }) r
        whole_line {r} {k} h q = parts_entry (record { after_word = x; after_letter = y; after_name = w; word = word; letter = letter; name = name; sum = rw (sym h, sym q) sum })

-- a line has one entry, and one end
pub entry_unique : {l : List ℕ} {e e' : Entry} {r r' : List ℕ} → EntryAt l e r → EntryAt l e' r' → (e ≡ e') × (r ≡ r')
entry_unique {r = r} {r'} a c =
    let p = entry_parts a in
    let q = entry_parts c in
    let s = at_sum q.word q.letter q.name q.sum p in
    let f : newline ∷ r ≡ newline ∷ r' = s.1 in
    (λ i. record { letter = (at_letter q.word q.letter p).0 i; name = (at_name q.word q.letter q.name p).0 i; sum = s.0 i }, cc)
