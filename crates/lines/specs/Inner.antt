-- What inner functions are asked on and give: no public contract names it.
use Rattle.std.specs.Prelude.{◌≡◌, List, ◌∷◌, ◌++◌, map, ℕ, ◌≤◌, ◌<◌, ℤ, nat_abs, length, drop, Option, Some, None}
use Rattle.std.proofs.lemmas.List.Edits.{sets}
use Rattle.text.specs.Decimal.{decimal, signed}
use Rattle.text.specs.Inner.{NoDigit}
use Rattle.text.specs.declared.Cursor.{Cursor}
use Rattle.lines.specs.Lines.{tab, fields, FewDigits, LineAt}

-- one field stands in front of l, and r, which begins with no digit, follows
pub record FieldAt (most : ℕ) (l : List ℕ) (z : ℤ) (r : List ℕ) : Type 0 where
  pub bytes : l ≡ tab ∷ (signed z ++ r)
  pub short : length (decimal (nat_abs z)) ≤ most
  pub ends : NoDigit r

-- the numbers ns stand as fields in front of l, and r follows; up says how one of them stands in a line
pub record FieldsOf {A : Type 0} (up : A → ℤ) (most : ℕ) (l : List ℕ) (ns : List A) (r : List ℕ) : Type 0 where
  pub bytes : l ≡ fields (map up ns) ++ r
  pub short : FewDigits most (map up ns)
  pub ends : 0 < length ns → NoDigit r

-- a line of the word w with the numbers ns stands in front of l, and r follows
abbrev pub LineOf : {A : Type 0} → (A → ℤ) → ℕ → List ℕ → List ℕ → List A → List ℕ → Type 0
LineOf up most w l ns r = LineAt most w l (map up ns) r

-- one field read from a place, and the place after it; or none stands there. up says how what is read stands in a line
unfoldable pub ReadField : {A : Type 0} → (A → ℤ) → ℕ → List ℕ → ℕ → Option (A × Cursor) → Type 0
ReadField {A} up most s at (Some r) = FieldAt most (drop at s) (up r.0) (drop r.1.at s)
ReadField {A} up most s at None = (x : A) (r : List ℕ) → ¬ FieldAt most (drop at s) (up x) r

-- n numbers that stand somewhere, with r after them, put into a room from its place start on
pub record PutFrom {A : Type 0} (Stand : List A → List ℕ → Type 0) (n : ℕ) (room : List A) (start : ℕ) (room' : List A) (r : List ℕ) : Type 0 where
  pub zs : List A
  pub count : length zs ≡ n
  pub here : Stand zs r
  pub put : room' ≡ sets room start zs

-- n numbers read into a room, and the place after them; or no such n numbers stand there
unfoldable pub ReadInto : {A : Type 0} → (List A → List ℕ → Type 0) → ℕ → List ℕ → List A → ℕ → List A → Option Cursor → Type 0
ReadInto {A} Stand n s room start room' (Some c) = PutFrom Stand n room start room' (drop c.at s)
ReadInto {A} Stand n s room start room' None = (zs : List A) (r : List ℕ) → length zs ≡ n → ¬ Stand zs r
