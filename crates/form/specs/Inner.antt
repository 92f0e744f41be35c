-- What inner functions are asked on and give: no public contract names it.
use Rattle.std.specs.Prelude.{◌≡◌, List, ◌++◌, map, ℕ, ◌*◌, ◌≤◌, ℤ, pos, length, take, Result, Ok, Err}
use Rattle.refusal.specs.First.{First}
use Rattle.refusal.specs.declared.Refusal.{Refusal}
use Rattle.lines.specs.Lines.{FewDigits}
use Rattle.lines.specs.Kinds.{corner_lines, row_lines}
use Rattle.heading.specs.Heading.{most_digits}
use Rattle.form.specs.Limits.{most_numbers, most_coordinates}
use Rattle.form.specs.Form.{CountsIn, SheetOf, form_refusals}

-- l is the lines of n corners with the coordinates xs and of m rows with the numbers t, and nothing else
pub record BodyAt (l : List ℕ) (n m : ℕ) (xs : List ℤ) (t : List ℕ) : Type 0 where
  pub text : l ≡ corner_lines n xs ++ row_lines m t
  pub corners : length xs ≡ n * 3
  pub rows : length t ≡ m * 3
  pub corners_short : FewDigits most_digits xs
  pub rows_short : FewDigits most_digits (map pos t)

abbrev pub NoBody : List ℕ → ℕ → ℕ → Type 0
NoBody l n m = (xs : List ℤ) (t : List ℕ) → ¬ BodyAt l n m xs t

-- n corners with the coordinates xs and m rows with the numbers t, within a sheet's limits
pub record Held (n m : ℕ) (xs : List ℤ) (t : List ℕ) : Type 0 where
  pub counts : CountsIn n m
  pub corners : length xs ≡ n * 3
  pub rows : length t ≡ m * 3

-- rooms for whatever a sheet may hold
pub record Rooms (xroom : List ℤ) (troom : List ℕ) : Type 0 where
  pub corners : most_coordinates ≤ length xroom
  pub rows : most_numbers ≤ length troom

-- in the form, with its corners and rows in front of two rooms
pub record FormRead (b : List ℕ) (n m : ℕ) (xroom : List ℤ) (troom : List ℕ) : Type 0 where
  pub passes : First (form_refusals b) (Ok tt)
  pub counts : CountsIn n m
  pub sheet : SheetOf b n m (take (n * 3) xroom) (take (m * 3) troom)

unfoldable pub ReadForm : List ℕ → List ℤ → List ℕ → Result (ℕ × ℕ) Refusal → Type 0
ReadForm b xroom troom (Ok p) = FormRead b p.0 p.1 xroom troom
ReadForm b xroom troom (Err r) = First (form_refusals b) (Err r)
