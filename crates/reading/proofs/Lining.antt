-- What holds between two lines, and why each way out of the readers is right.
use mathlib.Core.Path.{◌≡◌, refl, sym, ◌∙◌, ap, subst}
use mathlib.Core.List.{List, [], ◌++◌, append_assoc, map, map-id, map-append}
use Prim.Native.Nat.{ℕ, suc, ◌+◌, ◌-◌, ◌*◌, ◌≤◌, ◌<◌}
use native.Mathlib.Nat.{mul-le-mul, le_refl}
use native.Mathlib.Omega.{arith}
use lib.IntN.{ℤ}
use lib.ListN.{length, length-append, length-map, take, drop, length-drop, take-append-drop}
use lib.Seq.{sets, length-take-le, drop_at}
use Rattle.lines.specs.Lines.{line, lines, FewDigits}
use Rattle.lines.specs.Inner.{PutFrom}
use Rattle.lines.proofs.Cut.{map_take, map_drop, short_append, short_left, short_right, lines_more, cut_lines}
use Rattle.lines.proofs.Turns.{put_more, put_length}
use Rattle.reading.specs.Inner.{same, LineOf, LinesOf}

-- ---- lines of coordinates are lines of numbers

module _ {most : ℕ} {w : List ℕ} {width k : ℕ} {l : List ℕ} {zs : List ℤ} {r : List ℕ} where
  pub as_coordinates : l ≡ lines w width k zs ++ r → FewDigits most zs → LinesOf same most w width k l zs r
  as_coordinates e h = record { bytes = rw (map-id zs) e; short = rw (map-id zs) h }

  module _ (a : LinesOf same most w width k l zs r) where
    pub their_bytes : l ≡ lines w width k zs ++ r
    their_bytes = a.bytes ∙ ap (λ ys. lines w width k ys ++ r) (map-id zs)

    pub their_short : FewDigits most zs
    their_short = subst (FewDigits most) (map-id zs) a.short

-- ---- lines

module _ {A : Type 0} {f : A → ℤ} {most : ℕ} {w : List ℕ} {width i : ℕ} {l : List ℕ} {ns : List A} {r : List ℕ} (n : length ns ≡ i * width) (a : LinesOf f most w width i l ns r) where
  mapped : length (map f ns) ≡ i * width
  mapped = length-map ns f ∙ n

  -- one line more
  pub lines_on : (ms : List A) {q : List ℕ} → length ms ≡ width → LineOf f most w r ms q → LinesOf f most w width (suc i) l (ns ++ ms) q
  lines_on ms {q} d b =
      let both : map f (ns ++ ms) ≡ map f ns ++ map f ms = map-append f ns ms in
      let more = lines_more w width i (map f ns) (map f ms) mapped (length-map ms f ∙ d) in
      record {
        bytes = a.bytes ∙ ap (λ x. lines w width i (map f ns) ++ x) b.bytes ∙ sym (append_assoc (lines w width i (map f ns)) (line w (map f ms)) q) ∙ ap (λ x. x ++ q) (sym (ap (lines w width (suc i)) both ∙ more));
        short = subst (FewDigits most) (sym both) (short_append most (map f ns) (map f ms) a.short b.short);
      }

  -- no line is next, so there are not more
  pub no_next : {count : ℕ} → i < count → ((ms : List A) (q : List ℕ) → length ms ≡ width → ¬ LineOf f most w r ms q) → (ys : List A) (q : List ℕ) → length ys ≡ count * width → ¬ LinesOf f most w width count l ys q
  no_next {count} h none ys q m b =
      let j = count - suc i in
      let e : count ≡ i + suc j = omega arith in
      let o : length ys ≡ (i + suc j) * width = m ∙ ap (λ (x : ℕ). x * width) e in
      let v = cut_lines w width i count (suc j) (map f ns) (map f ys) r q e mapped (length-map ys f ∙ m) (sym a.bytes ∙ b.bytes) in
      -- the numbers of the lines that are left
      let us = drop (i * width) ys in
      let is : v.ts ≡ map f us = sym (drop_at (map f ns) v.ts (i * width) mapped) ∙ ap (drop (i * width)) (sym v.text) ∙ sym (map_drop f (i * width) ys) in
      let short : FewDigits most v.ts = short_right most (map f ns) v.ts (subst (FewDigits most) v.text b.short) in
      let first : map f (take width us) ≡ take width v.ts = map_take f width us ∙ ap (take width) (sym is) in
      let all = length-drop (i * width) ys in
      none (take width us) (lines w width j (drop width v.ts) ++ q) (length-take-le width us (omega arith)) (
      rw first (
      record {
        bytes = v.after ∙ append_assoc (line w (take width v.ts)) (lines w width j (drop width v.ts)) q;
        short = short_left most (take width v.ts) (drop width v.ts) (subst (FewDigits most) (sym (take-append-drop width v.ts)) short);
      }
      )
      )

module _ {A : Type 0} (f : A → ℤ) (most width count : ℕ) (s : List ℕ) (at : ℕ) (w : List ℕ) (room : List A) where
  -- i lines are read, up to k
  pub record Lined (room' : List A) (k i : ℕ) : Type 0 where
    pub within : i ≤ count
    pub put : PutFrom (LinesOf f most w width i (drop at s)) (i * width) room 0 room' (drop k s)

  pub lines_start : Lined room at 0
  lines_start = record { within = omega arith; put = record { zs = []; count = omega arith; here = record { bytes = refl; short = tt }; put = refl } }

module _ {A : Type 0} {f : A → ℤ} {most width count : ℕ} {s : List ℕ} {at : ℕ} {w : List ℕ} {room room' : List A} {k i : ℕ} (so : Lined f most width count s at w room room' k i) where
  pub line_room : count * width ≤ length room → i < count → i * width + width ≤ length room'
  line_room h l = let m : suc i * width ≤ count * width = mul-le-mul l (le_refl width) in omega (arith, put_length so.put)

  pub lines_next : (room₂ : List A) (n : ℕ) → i < count → PutFrom (LineOf f most w (drop k s)) width room' (i * width) room₂ (drop n s) → Lined f most width count s at w room room₂ n (i + 1)
  lines_next room₂ n h q = let p = so.put in let c = p.count in let d = q.count in
      let e : suc i ≡ i + 1 = omega arith in
      let g : i * width ≡ 0 + i * width = omega arith in
      let m : PutFrom (LinesOf f most w width (suc i) (drop at s)) (suc i * width) room 0 room₂ (drop n s) = record {
        zs = p.zs ++ q.zs;
        count = length-append p.zs q.zs ∙ (omega arith);
        here = lines_on c p.here q.zs d q.here;
        put = put_more room room' room₂ 0 (i * width) p.zs q.zs p.put c (q.put ∙ ap (λ (x : ℕ). sets room' x q.zs) g);
      } in
      record { within = omega arith; put = subst (λ (x : ℕ). PutFrom (LinesOf f most w width x (drop at s)) (x * width) room 0 room₂ (drop n s)) e m }

  -- no line is next, so there are not enough
  pub lines_stop : i < count → ((ns : List A) (r : List ℕ) → length ns ≡ width → ¬ LineOf f most w (drop k s) ns r) → (ys : List A) (r : List ℕ) → length ys ≡ count * width → ¬ LinesOf f most w width count (drop at s) ys r
  lines_stop h none = no_next so.put.count so.put.here h none

  pub lines_end : count ≤ i → PutFrom (LinesOf f most w width count (drop at s)) (count * width) room 0 room' (drop k s)
  lines_end h = let a = so.within in let e : i ≡ count = omega arith in subst (λ (x : ℕ). PutFrom (LinesOf f most w width x (drop at s)) (x * width) room 0 room' (drop k s)) e so.put
