-- One text for its skin, and one skin for its text.
use mathlib.Core.Path.{◌≡◌, sym, ◌∙◌, ap}
use mathlib.Core.List.{List, [], ◌++◌, append-nil, map}
use Prim.Native.Nat.{ℕ, ◌*◌}
use native.Mathlib.Omega.{arith}
use lib.IntN.{ℤ, pos}
use lib.ListN.{length, length-map}
use Rattle.lines.specs.Kinds.{C, R, corner_lines, row_lines}
use Rattle.lines.proofs.Cut.{lines_unique}
use Rattle.lines.proofs.Plain.{pos_same}
use Rattle.form.specs.Form.{SKIN, sheet_text, SheetOf}
use Rattle.heading.proofs.First.{same_first}
use Rattle.form.proofs.Formed.{its_line}

-- ---- one text for its corners and rows

-- a sheet is the only one for its table and corners
pub only_sheet : {b b' : List ℕ} {n m n' m' : ℕ} {xs : List ℤ} {t : List ℕ} → SheetOf b n m xs t → SheetOf b' n' m' xs t → b ≡ b'
only_sheet {n = n} {m} {n'} {m'} {xs} {t} s u =
    let a = s.corners in let c = u.corners in let d = s.rows in let f = u.rows in
    let e : n ≡ n' = omega arith in
    let g : m ≡ m' = omega arith in
    s.text ∙ (λ i. sheet_text (e i) (g i) xs t) ∙ sym u.text

-- ---- one skin for its text

pub record Same (n m n' m' : ℕ) (xs xs' : List ℤ) (t t' : List ℕ) : Type 0 where
  pub corners : n ≡ n'
  pub rows : m ≡ m'
  pub coordinates : xs ≡ xs'
  pub numbers : t ≡ t'

-- a sheet has one table and one list of corners
pub one_skin : {b : List ℕ} {n m n' m' : ℕ} {xs xs' : List ℤ} {t t' : List ℕ} → SheetOf b n m xs t → SheetOf b n' m' xs' t' → Same n m n' m' xs xs' t t'
one_skin {b} {n} {m} {n'} {m'} {xs} {xs'} {t} {t'} s u =
    let f = same_first SKIN b n m n' m' (corner_lines n xs ++ row_lines m t) (corner_lines n' xs' ++ row_lines m' t') (its_line s) (its_line u) in
    let p : length xs' ≡ n * 3 = u.corners ∙ ap (λ (k : ℕ). k * 3) (sym f.corners) in
    let q : length (map pos t') ≡ m * 3 = length-map t' pos ∙ u.rows ∙ ap (λ (k : ℕ). k * 3) (sym f.rows) in
    let g = lines_unique C 3 n xs xs' (row_lines m t) (row_lines m t') s.corners p (f.after ∙ (λ i. corner_lines (sym f.corners i) xs' ++ row_lines (sym f.rows i) t')) in
    let h = lines_unique R 3 m (map pos t) (map pos t') [] [] (length-map t pos ∙ s.rows) q (append-nil (row_lines m t) ∙ g.1 ∙ sym (append-nil (row_lines m t'))) in
    record { corners = f.corners; rows = f.rows; coordinates = g.0; numbers = pos_same t t' h.0 }
