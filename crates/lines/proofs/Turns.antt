-- What holds between two fields, and why each way out of the readers is right.
use mathlib.Core.Path.{◌≡◌, refl, sym, ◌∙◌, ap, subst}
use mathlib.Core.List.{List, [], ◌∷◌, ◌++◌, append_assoc, append-nil, append_cancel_left, map, map-append}
use Prim.Native.Nat.{ℕ, suc, ◌+◌, ◌^◌, ◌≤◌, ◌<◌}
use native.Mathlib.Omega.{arith}
use lib.IntN.{ℤ, pos, nat_abs}
use lib.ListN.{length, length-append, length-map, take, drop, length-drop, set}
use lib.Seq.{sets, length-sets, sets-eq, take_at, drop_at}
use mir.Syntax.{w32, w64}
use mir.Val.{SFits, to_z, of_z}
use Rattle.ints.proofs.Machine.{Is, var, kept, fits, sfits_abs}
use Rattle.text.specs.Decimal.{decimal, signed}
use Rattle.text.specs.InnerReading.{NumberAt, ReadSigned, Expected}
use Rattle.std.specs.Prelude.{Option, Some, None}
use Rattle.text.specs.declared.Cursor.{Cursor}
use Rattle.text.proofs.Digits.{digits_below}
use Rattle.lines.specs.Lines.{tab, newline, fields, FewDigits, LineAt}
use Rattle.lines.specs.InnerLimits.{most_plain}
use Rattle.lines.specs.Inner.{FieldAt, FieldsOf, LineOf, ReadField, PutFrom, ReadInto}
use Rattle.lines.proofs.Cut.{map_drop, short_append, short_right, fields_append, after_field, newline_no_digit, cut, fields_unique, line_after}

-- ---- one field

pub field_read : (most : ℕ) (s : List ℕ) (at c : ℕ) → drop at s ≡ tab ∷ drop c s → (n : Option (ℤ × Cursor)) → ReadSigned most s c n → ReadField (λ z. z) most s at n
unfolding ReadSigned ReadField
field_read most s at c e (Some n) a = record { bytes = e ∙ ap (λ x. tab ∷ x) a.bytes; short = a.short; ends = a.ends }
field_read most s at c e None a = λ z r b. a z r (record { bytes = (let f : tab ∷ drop c s ≡ tab ∷ (signed z ++ r) = sym e ∙ b.bytes in cc); short = b.short; ends = b.ends })

pub field_none : {A : Type 0} (up : A → ℤ) (most : ℕ) (s : List ℕ) (at : ℕ) → ((r : List ℕ) → ¬ (drop at s ≡ tab ∷ r)) → ReadField up most s at None
unfolding ReadField
field_none up most s at h = λ x r b. h (signed (up x) ++ r) b.bytes

-- ---- a plain number after its tab

module _ {most : ℕ} {l x : List ℕ} (e : l ≡ tab ∷ x) where
  pub plain_field : {v : ℕ} {r : List ℕ} → NumberAt most x v r → FieldAt most l (pos v) r
  plain_field a = record { bytes = e ∙ ap (λ y. tab ∷ y) a.bytes; short = a.short; ends = a.ends }

  pub no_plain : ((v : ℕ) (r : List ℕ) → ¬ NumberAt most x v r) → (v : ℕ) (r : List ℕ) → ¬ FieldAt most l (pos v) r
  no_plain h v r a = h v r (record { bytes = (let f : tab ∷ x ≡ tab ∷ (decimal v ++ r) = sym e ∙ a.bytes in cc); short = a.short; ends = a.ends })

-- ---- how big a field is

pub field_small : {most : ℕ} {l : List ℕ} {z : ℤ} {r : List ℕ} → most ≤ 18 → FieldAt most l z r → SFits w64 z
field_small {z = z} m a = let h = a.short in sfits_abs w64 z (omega (arith, digits_below (nat_abs z) 18 (omega arith)))

-- one of few digits, as the machine has it
module _ {most : ℕ} {l : List ℕ} (z : ℤ) {r : List ℕ} (m : most ≤ most_plain) (a : FieldAt most l z r) where
  size : nat_abs z < 10 ^ most_plain
  size = let h = a.short in digits_below (nat_abs z) most_plain (omega arith)

  small : Is (10 ^ most_plain) z (to_z w64 (of_z w64 z))
  small = var w64 (sfits_abs w64 z (omega (arith, size))) (omega (arith, size))

  pub plain_fits : SFits w32 (to_z w64 (of_z w64 z))
  plain_fits = fits w32 small (omega arith)

  pub plain_kept : to_z w32 (of_z w32 (to_z w64 (of_z w64 z))) ≡ z
  plain_kept = (kept w32 small (omega arith)).same

-- ---- stores one after another

pub sets_append : {A : Type 0} (l : List A) (at : ℕ) (xs ys : List A) → sets l at (xs ++ ys) ≡ sets (sets l at xs) (at + length xs) ys
sets_append l at [] ys = let e : at ≡ at + 0 = omega arith in ap (λ (k : ℕ). sets l k ys) e
sets_append l at (x ∷ xs) ys =
    let e : suc at + length xs ≡ at + suc (length xs) = omega arith in
    sets_append (set l at x) (suc at) xs ys ∙ ap (λ (k : ℕ). sets (sets (set l at x) (suc at) xs) k ys) e

-- numbers put, and more after them
pub put_more : {A : Type 0} (room room₁ room₂ : List A) (start n : ℕ) (zs new : List A) → room₁ ≡ sets room start zs → length zs ≡ n → room₂ ≡ sets room₁ (start + n) new → room₂ ≡ sets room start (zs ++ new)
put_more room room₁ room₂ start n zs new p h q = q ∙ (λ k. sets (p k) (start + sym h k) new) ∙ sym (sets_append room start zs new)

pub put_length : {A : Type 0} {Stand : List A → List ℕ → Type 0} {n start : ℕ} {room room' : List A} {r : List ℕ} → PutFrom Stand n room start room' r → length room' ≡ length room
put_length {start = start} {room = room} p = ap length p.put ∙ length-sets room start p.zs

-- what is put in front of a room stands there, with the rest as it was
pub in_front : {A : Type 0} (l xs : List A) → length xs ≤ length l → sets l 0 xs ≡ xs ++ drop (length xs) l
in_front l xs h = let e : 0 + length xs ≡ length xs = omega arith in sets-eq xs l 0 (omega arith) ∙ ap (λ (k : ℕ). xs ++ drop k l) e

pub front : {A : Type 0} (l l' xs : List A) (n : ℕ) → l' ≡ sets l 0 xs → length xs ≡ n → n ≤ length l → take n l' ≡ xs
front l l' xs n p h k = ap (take n) (p ∙ in_front l xs (omega arith)) ∙ take_at xs (drop (length xs) l) n h

-- ---- fields, of numbers that stand in a line as up says

module _ {A : Type 0} (up : A → ℤ) (most count : ℕ) (s : List ℕ) (at : ℕ) (room : List A) (start : ℕ) where
  -- i fields are read, up to k
  pub record Fielded (room' : List A) (k i : ℕ) : Type 0 where
    pub within : i ≤ count
    pub put : PutFrom (FieldsOf up most (drop at s)) i room start room' (drop k s)

  pub fields_start : Fielded room at 0
  fields_start = record { within = omega arith; put = record { zs = []; count = refl; here = record { bytes = refl; short = tt; ends = λ h. absurd (omega arith) }; put = refl } }

module _ {A : Type 0} {up : A → ℤ} {most count : ℕ} {s : List ℕ} {at : ℕ} {room : List A} {start : ℕ} {room' : List A} {k i : ℕ} (so : Fielded up most count s at room start room' k i) where
  -- one more; x is what the machine stores
  pub fields_more : (x y : A) (n : ℕ) → x ≡ y → i < count → FieldAt most (drop k s) (up y) (drop n s) → Fielded up most count s at room start (set room' (start + i) x) n (i + 1)
  fields_more x y n e h a =
      let p = so.put in
      let zs = p.zs in
      let both : map up (zs ++ (y ∷ [])) ≡ map up zs ++ (up y ∷ []) = map-append up zs (y ∷ []) in
      record {
        within = omega arith;
        put = record {
          zs = zs ++ (y ∷ []);
          count = length-append zs (y ∷ []) ∙ (let c = p.count in omega arith);
          here = record {
            bytes = p.here.bytes ∙ ap (λ x. fields (map up zs) ++ x) (a.bytes ∙ ap (λ x. tab ∷ (x ++ drop n s)) (sym (append-nil (signed (up y))))) ∙ sym (append_assoc (fields (map up zs)) (tab ∷ (signed (up y) ++ [])) (drop n s)) ∙ ap (λ x. x ++ drop n s) (sym (ap fields both ∙ fields_append (map up zs) (up y ∷ [])));
            short = subst (FewDigits most) (sym both) (short_append most (map up zs) (up y ∷ []) p.here.short (a.short, tt));
            ends = λ l. a.ends;
          };
          put = put_more room room' (set room' (start + i) x) start i zs (y ∷ []) p.put p.count (ap (set room' (start + i)) e);
        };
      }

  -- no field is next, so there are not enough
  pub fields_stop : i < count → ((y : A) (r : List ℕ) → ¬ FieldAt most (drop k s) (up y) r) → (ys : List A) (r : List ℕ) → length ys ≡ count → ¬ FieldsOf up most (drop at s) ys r
  fields_stop h none ys r n b =
      let p = so.put in
      let c = p.count in
      let zs = map up p.zs in
      let l = length-map p.zs up in
      let m = length-map ys up in
      let v = cut zs (map up ys) (drop k s) r (λ o. p.here.ends (omega arith)) (λ o. b.ends (omega arith)) (omega arith) (sym p.here.bytes ∙ b.bytes) in
      let is : v.ts ≡ map up (drop i ys) = sym (drop_at zs v.ts i (l ∙ c)) ∙ ap (drop i) (sym v.text) ∙ sym (map_drop up i ys) in
      go (drop i ys) (omega (arith, length-drop i ys)) (v.after ∙ ap (λ ts. fields ts ++ r) is) (subst (FewDigits most) is (short_right most zs v.ts (subst (FewDigits most) v.text b.short)))
    where
      go : (us : List A) → 0 < length us → drop k s ≡ fields (map up us) ++ r → FewDigits most (map up us) → ⊥
      go [] l f m = omega arith
      go (u ∷ us) l f m = none u (fields (map up us) ++ r) (record {
        bytes = f ∙ ap (λ x. tab ∷ x) (append_assoc (signed (up u)) (fields (map up us)) r);
        short = m.0;
        ends = after_field (map up us) r (b.ends (omega arith));
      })

  pub fields_end : count ≤ i → PutFrom (FieldsOf up most (drop at s)) count room start room' (drop k s)
  fields_end h = let w = so.within in let e : i ≡ count = omega arith in subst (λ (n : ℕ). PutFrom (FieldsOf up most (drop at s)) n room start room' (drop k s)) e so.put

-- ---- a line

module _ {A : Type 0} (up : A → ℤ) (w : List ℕ) {l : List ℕ} where
  pub no_word : {most count : ℕ} → ((r : List ℕ) → ¬ (l ≡ w ++ r)) → (ys : List A) (r : List ℕ) → length ys ≡ count → ¬ LineAt most w l (map up ys) r
  no_word h ys r n a = h (fields (map up ys) ++ (newline ∷ r)) (a.bytes ∙ line_after w (map up ys) r)

  -- x stands after its word
  module _ {x : List ℕ} (e : l ≡ w ++ x) {most : ℕ} where
    its_fields : {ys : List A} {r : List ℕ} → LineAt most w l (map up ys) r → FieldsOf up most x ys (newline ∷ r)
    its_fields {ys} {r} a = record { bytes = append_cancel_left w x (fields (map up ys) ++ (newline ∷ r)) (sym e ∙ a.bytes ∙ line_after w (map up ys) r); short = a.short; ends = λ h. newline_no_digit }

    pub no_fields : {count : ℕ} → ((zs : List A) (r : List ℕ) → length zs ≡ count → ¬ FieldsOf up most x zs r) → (ys : List A) (r : List ℕ) → length ys ≡ count → ¬ LineAt most w l (map up ys) r
    no_fields h ys r n a = h ys (newline ∷ r) n (its_fields a)

    pub line_end : {count : ℕ} {room : List A} {start : ℕ} {room' : List A} (s : List ℕ) (end : ℕ) → PutFrom (FieldsOf up most x) count room start room' (drop end s) → (p : Option Cursor) → Expected (newline ∷ []) s end p → ReadInto (LineOf up most w l) count s room start room' p
    unfolding Expected ReadInto
    line_end s end p (Some c) f = let zs = map up p.zs in record {
      zs = p.zs;
      count = p.count;
      here = record { bytes = e ∙ ap (λ x. w ++ x) (p.here.bytes ∙ ap (λ x. fields zs ++ x) f) ∙ sym (line_after w zs (drop c.at s)); short = p.here.short };
      put = p.put;
    }
    line_end s end p None f = λ ys r n a.
        let b = its_fields {ys = ys} a in
        let c = p.count in
        let i = length-map p.zs up in
        let j = length-map ys up in
        f r (fields_unique (map up p.zs) (map up ys) (drop end s) (newline ∷ r) (λ o. p.here.ends (omega arith)) (λ o. b.ends (omega arith)) (omega arith) (sym p.here.bytes ∙ b.bytes)).1
