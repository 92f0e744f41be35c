-- How long the text of a sheet can be: within its counts it never reaches the size limit.
use mathlib.Core.Path.{◌≡◌, sym, ◌∙◌, ap, subst}
use mathlib.Core.List.{List, [], ◌∷◌, ◌++◌, map}
use Prim.Native.Nat.{ℕ, zero, suc, ◌+◌, ◌*◌, ◌≤◌}
use native.Mathlib.Omega.{arith}
use lib.IntN.{ℤ, pos}
use lib.ListN.{length, length-append, take, drop, length-drop, length-map, take-append-drop}
use lib.Seq.{length-take-le}
use Rattle.lines.specs.Lines.{fields, line, lines, FewDigits}
use Rattle.heading.proofs.Sizes.{fields_size}
use Rattle.lines.specs.Kinds.{corner_lines, row_lines}
use Rattle.lines.proofs.Cut.{short_left, short_right}
use Rattle.heading.specs.Heading.{most_digits, first_line_lem}
use Rattle.form.specs.Limits.{most_sheet_bytes}
use Rattle.form.specs.Form.{SKIN, CountsIn, SheetOf}

line_size : (w : List ℕ) (zs : List ℤ) → FewDigits most_digits zs → length (line w zs) ≤ length w + length zs * 8 + 1
line_size w zs a = omega (arith, length-append w (fields zs ++ (10 ∷ [])), length-append (fields zs) (10 ∷ []), fields_size zs a)

lines_size : (b k : ℕ) (zs : List ℤ) → FewDigits most_digits zs → length zs ≡ k * 3 → length (lines (b ∷ []) 3 k zs) ≤ k * 26
lines_size b zero zs a h = omega arith
lines_size b (suc k) zs a h =
    let parts : FewDigits most_digits (take 3 zs ++ drop 3 zs) = subst (FewDigits most_digits) (sym (take-append-drop 3 zs)) a in
    let i = lines_size b k (drop 3 zs) (short_right most_digits (take 3 zs) (drop 3 zs) parts) (length-drop 3 zs ∙ (omega arith)) in
    let l = line_size (b ∷ []) (take 3 zs) (short_left most_digits (take 3 zs) (drop 3 zs) parts) in
    omega (arith, length-append (line (b ∷ []) (take 3 zs)) (lines (b ∷ []) 3 k (drop 3 zs)), length-take-le 3 zs (omega arith))

pub sheet_size : {b : List ℕ} {n m : ℕ} {xs : List ℤ} {t : List ℕ} → SheetOf b n m xs t → CountsIn n m → length b ≤ most_sheet_bytes
sheet_size {b} {n} {m} {xs} {t} s c =
    let p = c.many in
    let q = c.most in
    let f = line_size SKIN (pos n ∷ pos m ∷ []) s.counts_short in
    let x = lines_size 67 n xs s.corners_short s.corners in
    let y = lines_size 82 m (map pos t) s.rows_short (length-map t pos ∙ s.rows) in
    omega (arith, ap length s.text, length-append (first_line_lem SKIN n m) (corner_lines n xs ++ row_lines m t), length-append (corner_lines n xs) (row_lines m t))
