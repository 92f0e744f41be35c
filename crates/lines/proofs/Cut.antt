-- Lines can be cut into words and numbers in one way only.
use mathlib.Core.Path.{◌≡◌, refl, sym, ◌∙◌, ap}
use mathlib.Core.List.{List, [], ◌∷◌, ◌++◌, append_assoc, append-nil, append_cancel_left, map}
use Prim.Native.Nat.{ℕ, zero, suc, ◌+◌, ◌*◌, ◌≤◌, ◌<◌}
use native.Mathlib.Omega.{arith}
use lib.IntN.{ℤ, nat_abs}
use lib.ListN.{length, length-append, take, drop, length-drop, take-append-drop}
use lib.Seq.{take_all, take-append-le, drop-append-le, length-take-le}
use Rattle.text.specs.Decimal.{decimal, signed}
use Rattle.text.specs.Inner.{Digit, NoDigit}
use Rattle.text.specs.InnerReading.{SignedAt}
use Rattle.text.proofs.Signs.{signed_unique}
use Rattle.lines.specs.Lines.{tab, newline, fields, line, lines, FewDigits}

tab_no_digit : ¬ Digit tab
tab_no_digit d = let l = d.least in omega arith

pub newline_no_digit : ¬ Digit newline
newline_no_digit d = let l = d.least in omega arith

-- ---- numbers of a line among others

pub map_drop : {A B : Type 0} (f : A → B) (n : ℕ) (xs : List A) → map f (drop n xs) ≡ drop n (map f xs)
map_drop f zero xs = refl
map_drop f (suc n) [] = refl
map_drop f (suc n) (x ∷ xs) = map_drop f n xs

pub map_take : {A B : Type 0} (f : A → B) (n : ℕ) (xs : List A) → map f (take n xs) ≡ take n (map f xs)
map_take f zero xs = refl
map_take f (suc n) [] = refl
map_take f (suc n) (x ∷ xs) = ap (λ l. f x ∷ l) (map_take f n xs)

-- ---- laws of Short and fields over ++

pub short_append : (most : ℕ) (xs ys : List ℤ) → FewDigits most xs → FewDigits most ys → FewDigits most (xs ++ ys)
short_append most [] ys a b = b
short_append most (x ∷ xs) ys a b = (a.0, short_append most xs ys a.1 b)

pub short_left : (most : ℕ) (xs ys : List ℤ) → FewDigits most (xs ++ ys) → FewDigits most xs
short_left most [] ys a = tt
short_left most (x ∷ xs) ys a = (a.0, short_left most xs ys a.1)

pub short_right : (most : ℕ) (xs ys : List ℤ) → FewDigits most (xs ++ ys) → FewDigits most ys
short_right most [] ys a = a
short_right most (x ∷ xs) ys a = short_right most xs ys a.1

pub short_more : (most few : ℕ) (zs : List ℤ) → few ≤ most → FewDigits few zs → FewDigits most zs
short_more most few [] h a = tt
short_more most few (z ∷ zs) h a = let k = a.0 in (omega arith, short_more most few zs h a.1)

pub fields_append : (xs ys : List ℤ) → fields (xs ++ ys) ≡ fields xs ++ fields ys
fields_append [] ys = refl
fields_append (x ∷ xs) ys = ap (λ l. tab ∷ l) (ap (λ l. signed x ++ l) (fields_append xs ys) ∙ sym (append_assoc (signed x) (fields xs) (fields ys)))

-- ---- fields

-- what follows a field begins with no digit
pub after_field : (zs : List ℤ) (r : List ℕ) → NoDigit r → NoDigit (fields zs ++ r)
after_field [] r h = h
after_field (z ∷ zs) r h = tab_no_digit

-- xs are the first of ys
pub record First (xs ys : List ℤ) (l r : List ℕ) : Type 0 where
  pub ts : List ℤ
  pub text : ys ≡ xs ++ ts
  pub after : l ≡ fields ts ++ r

pub cut : (xs ys : List ℤ) (l r : List ℕ) → (0 < length xs → NoDigit l) → (0 < length ys → NoDigit r) → length xs ≤ length ys → fields xs ++ l ≡ fields ys ++ r → First xs ys l r
cut [] ys l r a b h e = record { ts = ys; text = refl; after = e }
cut (x ∷ xs) [] l r a b h e = absurd (omega arith)
cut (x ∷ xs) (y ∷ ys) l r a b h e =
    let f : (signed x ++ fields xs) ++ l ≡ (signed y ++ fields ys) ++ r = cc in
    let n = length (decimal (nat_abs x)) + length (decimal (nat_abs y)) in
    let u : SignedAt n (signed x ++ (fields xs ++ l)) x (fields xs ++ l) = record { bytes = refl; short = omega arith; ends = after_field xs l (a (omega arith)) } in
    let v : SignedAt n (signed x ++ (fields xs ++ l)) y (fields ys ++ r) = record { bytes = sym (append_assoc (signed x) (fields xs) l) ∙ f ∙ append_assoc (signed y) (fields ys) r; short = omega arith; ends = after_field ys r (b (omega arith)) } in
    let s = signed_unique x y u v in
    let k = cut xs ys l r (λ z. a (omega arith)) (λ z. b (omega arith)) (omega arith) s.1 in
    record { ts = k.ts; text = (λ i. sym s.0 i ∷ k.text i); after = k.after }

nothing : (xs ts : List ℤ) (n : ℕ) → length xs ≡ n → length (xs ++ ts) ≡ n → ts ≡ []
nothing xs [] n h l = refl
nothing xs (t ∷ ts) n h l = absurd (omega (arith, length-append xs (t ∷ ts)))

-- as many fields, then another byte: they are the same
pub fields_unique : (xs ys : List ℤ) (l r : List ℕ) → (0 < length xs → NoDigit l) → (0 < length ys → NoDigit r) → length xs ≡ length ys → fields xs ++ l ≡ fields ys ++ r → (xs ≡ ys) × (l ≡ r)
fields_unique xs ys l r a b h e =
    let k = cut xs ys l r a b (omega arith) e in
    let n = nothing xs k.ts (length ys) h (sym (ap length k.text)) in
    (sym (k.text ∙ ap (λ t. xs ++ t) n ∙ append-nil xs), k.after ∙ ap (λ t. fields t ++ r) n)

-- ---- lines

pub line_after : (w : List ℕ) (zs : List ℤ) (r : List ℕ) → line w zs ++ r ≡ w ++ (fields zs ++ (newline ∷ r))
line_after w zs r = append_assoc w (fields zs ++ (newline ∷ [])) r ∙ ap (λ l. w ++ l) (append_assoc (fields zs) (newline ∷ []) r)

pub line_unique : (w : List ℕ) (xs ys : List ℤ) (l r : List ℕ) → length xs ≡ length ys → line w xs ++ l ≡ line w ys ++ r → (xs ≡ ys) × (l ≡ r)
line_unique w xs ys l r h e =
    let f = append_cancel_left w (fields xs ++ (newline ∷ l)) (fields ys ++ (newline ∷ r)) (sym (line_after w xs l) ∙ e ∙ line_after w ys r) in
    let u = fields_unique xs ys (newline ∷ l) (newline ∷ r) (λ z. newline_no_digit) (λ z. newline_no_digit) h f in
    (u.0, (let g : newline ∷ l ≡ newline ∷ r = u.1 in cc))

-- one line more
pub lines_more : (w : List ℕ) (width i : ℕ) (zs new : List ℤ) → length zs ≡ i * width → length new ≡ width → lines w width (suc i) (zs ++ new) ≡ lines w width i zs ++ line w new
lines_more w width zero [] new h e = append-nil (line w (take width new)) ∙ ap (line w) (take_all width new (omega arith))
lines_more w width zero (z ∷ zs) new h e = absurd (omega arith)
lines_more w width (suc i) zs new h e =
    let le : width ≤ length zs = omega arith in
    let n : length (drop width zs) ≡ i * width = length-drop width zs ∙ (omega arith) in
    (λ k. line w (take-append-le width zs new le k) ++ lines w width (suc i) (drop-append-le width zs new le k))
    ∙ ap (λ x. line w (take width zs) ++ x) (lines_more w width i (drop width zs) new n e)
    ∙ sym (append_assoc (line w (take width zs)) (lines w width i (drop width zs)) (line w new))

-- xs, in i lines, are the first of ys, in i + j lines
pub record FirstLines (w : List ℕ) (width j : ℕ) (xs ys : List ℤ) (l r : List ℕ) : Type 0 where
  pub ts : List ℤ
  pub text : ys ≡ xs ++ ts
  pub after : l ≡ lines w width j ts ++ r

pub cut_lines : (w : List ℕ) (width i k j : ℕ) (xs ys : List ℤ) (l r : List ℕ) → k ≡ i + j → length xs ≡ i * width → length ys ≡ k * width → lines w width i xs ++ l ≡ lines w width k ys ++ r → FirstLines w width j xs ys l r
cut_lines w width zero k j [] ys l r e h n p = let f : k ≡ j = omega arith in record { ts = ys; text = refl; after = p ∙ ap (λ (x : ℕ). lines w width x ys ++ r) f }
cut_lines w width zero k j (x ∷ xs) ys l r e h n p = absurd (omega arith)
cut_lines w width (suc i) zero j xs ys l r e h n p = absurd (omega arith)
cut_lines w width (suc i) (suc k) j xs ys l r e h n p =
    let a : length (take width xs) ≡ length (take width ys) = length-take-le width xs (omega arith) ∙ sym (length-take-le width ys (omega arith)) in
    let q = sym (append_assoc (line w (take width xs)) (lines w width i (drop width xs)) l) ∙ p ∙ append_assoc (line w (take width ys)) (lines w width k (drop width ys)) r in
    let u = line_unique w (take width xs) (take width ys) (lines w width i (drop width xs) ++ l) (lines w width k (drop width ys) ++ r) a q in
    let b : length (drop width xs) ≡ i * width = length-drop width xs ∙ (omega arith) in
    let c : length (drop width ys) ≡ k * width = length-drop width ys ∙ (omega arith) in
    let f : k ≡ i + j = omega arith in
    let v = cut_lines w width i k j (drop width xs) (drop width ys) l r f b c u.1 in
    record {
      ts = v.ts;
      text = sym (take-append-drop width ys) ∙ (λ m. sym u.0 m ++ v.text m) ∙ sym (append_assoc (take width xs) (drop width xs) v.ts) ∙ ap (λ x. x ++ v.ts) (take-append-drop width xs);
      after = v.after;
    }

-- as many lines of as many numbers: they are the same
pub lines_unique : (w : List ℕ) (width k : ℕ) (xs ys : List ℤ) (l r : List ℕ) → length xs ≡ k * width → length ys ≡ k * width → lines w width k xs ++ l ≡ lines w width k ys ++ r → (xs ≡ ys) × (l ≡ r)
lines_unique w width k xs ys l r h n p =
    let v = cut_lines w width k k 0 xs ys l r (omega arith) h n p in
    let e = nothing xs v.ts (k * width) h (sym (ap length v.text) ∙ n) in
    (sym (v.text ∙ ap (λ t. xs ++ t) e ∙ append-nil xs), v.after)
