-- One thing written after another: what is left to write, so that every writer's loop has one invariant.
use mathlib.Core.Path.{◌≡◌, refl, sym, ◌∙◌, ap, subst}
use mathlib.Core.List.{List, [], ◌∷◌, ◌++◌, map}
use Prim.Native.Nat.{ℕ, suc, ◌+◌, ◌-◌, ◌*◌, ◌≤◌, ◌<◌}
use native.Mathlib.Omega.{arith}
use native.Mathlib.Numerals.{add-one}
use native.Mathlib.Nat.{mul-le-mul, le_refl}
use lib.IntN.{ℤ}
use lib.ListN.{length, length-append, take, drop, get_or, set, drop_of_length-le}
use lib.Seq.{sets, length-sets, drop-cons, drop-drop}
use Rattle.text.specs.Decimal.{signed}
use Rattle.text.specs.InnerReading.{Written}
use Rattle.text.proofs.Spell.{write_after}
use Rattle.lines.specs.Lines.{tab, newline, fields, line, lines}
use Rattle.lines.proofs.Cut.{map_take, map_drop}
use Rattle.lines.proofs.Turns.{sets_append}

-- writing w at the place k of l comes to what writing w₀ at k₀ of l₀ does
pub record Onward (l₀ : List ℕ) (k₀ : ℕ) (w₀ : List ℕ) (l : List ℕ) (k : ℕ) (w : List ℕ) : Type 0 where
  pub place : k + length w ≡ k₀ + length w₀
  pub room : length l ≡ length l₀
  pub text : sets l k w ≡ sets l₀ k₀ w₀

pub onward_start : (l : List ℕ) (k : ℕ) (w : List ℕ) → Onward l k w l k w
onward_start l k w = record { place = refl; room = refl; text = refl }

module _ {l₀ : List ℕ} {k₀ : ℕ} {w₀ l : List ℕ} {k : ℕ} where
  -- a part of what is left is written
  pub onward : (u w v : List ℕ) {r : ℕ} {l₁ : List ℕ} → u ≡ w ++ v → Onward l₀ k₀ w₀ l k u → Written l k w r l₁ → Onward l₀ k₀ w₀ l₁ r v
  onward u w v {r} {l₁} e o p =
      let a = o.place in
      let b = p.place in
      let n : length u ≡ length w + length v = ap length e ∙ length-append w v in
      record {
        place = omega arith;
        room = ap length p.text ∙ length-sets l k w ∙ o.room;
        text = (λ i. sets (p.text i) (p.place i) v) ∙ sym (sets_append l k w v) ∙ ap (sets l k) (sym e) ∙ o.text;
      }

  -- nothing is left
  pub onward_end : Onward l₀ k₀ w₀ l k [] → Written l₀ k₀ w₀ k l
  onward_end o = let a = o.place in record { place = omega arith; text = o.text }

  -- what is left fits, and so does its first part
  pub onward_fits : (w : List ℕ) → Onward l₀ k₀ w₀ l k w → k₀ + length w₀ ≤ length l₀ → k + length w ≤ length l
  onward_fits w o h = let a = o.place in let b = o.room in omega arith

  pub onward_front : (w v : List ℕ) → Onward l₀ k₀ w₀ l k (w ++ v) → k₀ + length w₀ ≤ length l₀ → k + length w ≤ length l
  onward_front w v o h = let a = onward_fits (w ++ v) o h in omega (arith, length-append w v)

-- ---- fields, of numbers that stand in a line as up says

module _ {A : Type 0} (up : A → ℤ) (xs : List A) (i : ℕ) (x : A) (h : i < length xs) (e : x ≡ get_or xs i x) where
  one_field : fields (map up (drop i xs)) ≡ (tab ∷ signed (up x)) ++ fields (map up (drop (i + 1) xs))
  one_field = rw (add-one, drop-cons xs i x h, ← e)

  pub field_length : length (fields (map up (drop i xs))) ≡ 1 + length (signed (up x)) + length (fields (map up (drop (i + 1) xs)))
  field_length = let e = ap length one_field in omega (arith, length-append (tab ∷ signed (up x)) (fields (map up (drop (i + 1) xs))))

  module _ {l₀ : List ℕ} {k₀ : ℕ} {l : List ℕ} {k : ℕ} (o : Onward l₀ k₀ (fields (map up xs)) l k (fields (map up (drop i xs)))) where
    pub field_fits : k₀ + length (fields (map up xs)) ≤ length l₀ → k + 1 + length (signed (up x)) ≤ length l
    field_fits f = let a = onward_fits (fields (map up (drop i xs))) o f in omega (arith, field_length)

    pub field_written : {r : ℕ} {l₁ : List ℕ} → Written (set l k tab) (k + 1) (signed (up x)) r l₁ → Onward l₀ k₀ (fields (map up xs)) l₁ r (fields (map up (drop (i + 1) xs)))
    field_written {r} {l₁} p =
        onward (fields (map up (drop i xs))) (tab ∷ signed (up x)) (fields (map up (drop (i + 1) xs))) one_field o (write_after l l₁ k tab r (signed (up x)) p)

-- none are left at the end
pub none_left : {A : Type 0} (up : A → ℤ) (xs : List A) (i : ℕ) → length xs ≤ i → fields (map up (drop i xs)) ≡ []
none_left up xs i h = rw (drop_of_length-le xs h)

-- ---- a line

module _ (w : List ℕ) (zs : List ℤ) (l : List ℕ) (at : ℕ) (f : at + length (line w zs) ≤ length l) where
  pub word_fits : at + length w ≤ length l
  word_fits = onward_front w (fields zs ++ (newline ∷ [])) (onward_start l at (line w zs)) f

  module _ {r : ℕ} {l₁ : List ℕ} (p : Written l at w r l₁) where
    after_word : Onward l at (line w zs) l₁ r (fields zs ++ (newline ∷ []))
    after_word = onward (line w zs) w (fields zs ++ (newline ∷ [])) refl (onward_start l at (line w zs)) p

    pub numbers_fit : r + length (fields zs) ≤ length l₁
    numbers_fit = onward_front (fields zs) (newline ∷ []) after_word f

    module _ {r₂ : ℕ} {l₂ : List ℕ} (q : Written l₁ r (fields zs) r₂ l₂) where
      after_numbers : Onward l at (line w zs) l₂ r₂ (newline ∷ [])
      after_numbers = onward (fields zs ++ (newline ∷ [])) (fields zs) (newline ∷ []) refl after_word q

      pub newline_fits : r₂ + 1 ≤ length l₂
      newline_fits = onward_fits (newline ∷ []) after_numbers f

      pub line_written : {r₃ : ℕ} {l₃ : List ℕ} → Written l₂ r₂ (newline ∷ []) r₃ l₃ → Written l at (line w zs) r₃ l₃
      line_written t = onward_end (onward (newline ∷ []) (newline ∷ []) [] refl after_numbers t)

-- ---- lines

-- i lines are written, with the numbers before from
pub record Lining {A : Type 0} (up : A → ℤ) (l₀ : List ℕ) (at : ℕ) (w : List ℕ) (ns : List A) (width count : ℕ) (l : List ℕ) (k i : ℕ) : Type 0 where
  pub left : Onward l₀ at (lines w width count (map up ns)) l k (lines w width (count - i) (map up (drop (i * width) ns)))

pub lining_start : {A : Type 0} (up : A → ℤ) (l₀ : List ℕ) (at : ℕ) (w : List ℕ) (ns : List A) (width count : ℕ) → Lining up l₀ at w ns width count l₀ at 0
lining_start up l₀ at w ns width count =
    let e : count ≡ count - 0 = omega arith in
    let f : 0 ≡ 0 * width = omega arith in
    record { left = subst (λ (n : ℕ). Onward l₀ at (lines w width count (map up ns)) l₀ at (lines w width n (map up (drop (0 * width) ns)))) e (subst (λ (n : ℕ). Onward l₀ at (lines w width count (map up ns)) l₀ at (lines w width count (map up (drop n ns)))) f (onward_start l₀ at (lines w width count (map up ns)))) }

module _ {A : Type 0} {up : A → ℤ} {l₀ : List ℕ} {at : ℕ} {w : List ℕ} {ns : List A} {width count : ℕ} {l : List ℕ} {k i : ℕ} (o : Lining up l₀ at w ns width count l k i) where
  module _ (h : i < count) where
    -- its numbers
    abbrev these : List A
    these = take width (drop (i * width) ns)

    one_line : lines w width (count - i) (map up (drop (i * width) ns)) ≡ line w (map up these) ++ lines w width (count - (i + 1)) (map up (drop ((i + 1) * width) ns))
    one_line =
        let e : count - i ≡ suc (count - (i + 1)) = omega arith in
        let d : i * width + width ≡ (i + 1) * width = omega arith in
        let f = sym (map_take up width (drop (i * width) ns)) in
        let g = sym (map_drop up width (drop (i * width) ns)) ∙ ap (map up) (drop-drop width (i * width) ns ∙ ap (λ (n : ℕ). drop n ns) d) in
        (λ j. lines w width (e j) (map up (drop (i * width) ns))) ∙ (λ j. line w (f j) ++ lines w width (count - (i + 1)) (g j))

    -- they are there
    pub numbers_there : count * width ≤ length ns → i * width + width ≤ length ns
    numbers_there f = let a : i + 1 ≤ count = omega arith in let m : (i + 1) * width ≤ count * width = mul-le-mul a (le_refl width) in omega arith

    pub line_fits : at + length (lines w width count (map up ns)) ≤ length l₀ → k + length (line w (map up these)) ≤ length l
    line_fits f = onward_front (line w (map up these)) (lines w width (count - (i + 1)) (map up (drop ((i + 1) * width) ns))) (subst (Onward _ _ _ _ _) one_line o.left) f

    pub lining_more : {r : ℕ} {l₁ : List ℕ} → Written l k (line w (map up these)) r l₁ → Lining up l₀ at w ns width count l₁ r (i + 1)
    lining_more p = record { left = onward _ (line w (map up these)) _ one_line o.left p }

  pub lining_end : count ≤ i → Written l₀ at (lines w width count (map up ns)) k l
  lining_end h = let e : count - i ≡ 0 = omega arith in onward_end (subst (λ (n : ℕ). Onward l₀ at (lines w width count (map up ns)) l k (lines w width n (map up (drop (i * width) ns)))) e o.left)
