-- The form of a sheet. "Lines end in one newline; fields are parted by single tabs: SKIN, corners, rows; then per corner C and three numbers;
-- then per row R and three. Numbers have one to six digits, no needless zero in front, a minus only before a nonzero coordinate. Nothing follows the last row."
use Rattle.std.specs.Prelude.{◌≡◌, List, [], ◌∷◌, ◌++◌, map, ℕ, ◌*◌, ◌≤◌, ◌<◌, ℤ, pos, length}
use Rattle.surface.specs.Limits.{least_rows, least_corners}
use Rattle.refusal.specs.First.{Refusals, ◌when◌}
use Rattle.refusal.specs.declared.Refusal.TheVariants.{SheetForm, CountsOutside}
use Rattle.lines.specs.Lines.{FewDigits}
use Rattle.lines.specs.Kinds.{corner_lines, row_lines}
use Rattle.heading.specs.Heading.{most_digits, first_line_lem, Begins, NoFirstLine}
use Rattle.form.specs.Limits.{most_sheet_bytes, most_sheet_rows, most_sheet_corners}

-- the word of its first line: SKIN
abbrev pub SKIN : List ℕ
SKIN = 83 ∷ 75 ∷ 73 ∷ 78 ∷ []

-- the text of n corners with the coordinates xs and of m rows with the numbers t
abbrev pub sheet_text : ℕ → ℕ → List ℤ → List ℕ → List ℕ
sheet_text n m xs t = first_line_lem SKIN n m ++ (corner_lines n xs ++ row_lines m t)

-- 4 to 514 corners, 4 to 1,024 rows
pub record CountsIn (n m : ℕ) : Type 0 where
  pub few : least_corners ≤ n
  pub many : n ≤ most_sheet_corners
  pub least : least_rows ≤ m
  pub most : m ≤ most_sheet_rows

-- b is the sheet of n corners with the coordinates xs and of m rows with the numbers t
pub record SheetOf (b : List ℕ) (n m : ℕ) (xs : List ℤ) (t : List ℕ) : Type 0 where
  pub text : b ≡ sheet_text n m xs t
  pub corners : length xs ≡ n * 3
  pub rows : length t ≡ m * 3
  -- one to six digits
  pub counts_short : FewDigits most_digits (pos n ∷ pos m ∷ [])
  pub corners_short : FewDigits most_digits xs
  pub rows_short : FewDigits most_digits (map pos t)

-- the counts of the first line are outside the sheet's limits
pub record CountsOut (b : List ℕ) : Type 0 where
  pub n : ℕ
  pub m : ℕ
  pub begins : Begins SKIN b n m
  pub out : ¬ CountsIn n m

-- no sheet has this text. Where the first line is in its form and its counts are in, the other lines are not in theirs, or something follows the last row
abbrev pub NoSheet : List ℕ → Type 0
NoSheet b = (n m : ℕ) (xs : List ℤ) (t : List ℕ) → ¬ SheetOf b n m xs t

-- "For a sheet this order replaces the table's: size, first line (12), counts (2), other lines (12), the rest."
unfoldable pub form_refusals : List ℕ → Refusals
form_refusals b =
    (SheetForm when (most_sheet_bytes < length b))
    ∷ (SheetForm when NoFirstLine SKIN b)
    ∷ (CountsOutside when CountsOut b)
    ∷ (SheetForm when NoSheet b)
    ∷ []
