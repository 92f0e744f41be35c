-- A log sheet: "first line `LOG`, corners, rows, tab-parted; then one `K` line a record with its ten numbers, number rules as in 01."
use Rattle.std.specs.Prelude.{◌≡◌, List, [], ◌∷◌, ◌++◌, map, ℕ, ◌-◌, ◌≤◌, pos}
use Rattle.surface.specs.Limits.{least_rows, most_rows, least_corners, most_corners}
use Rattle.record.specs.Layout.{count, WholeRecords}
use Rattle.lines.specs.Lines.{FewDigits}
use Rattle.lines.specs.Kinds.{record_lines}
use Rattle.heading.specs.Heading.{most_digits, first_line_lem}

-- the word of its first line: LOG
abbrev pub LOG : List ℕ
LOG = 76 ∷ 79 ∷ 71 ∷ []

-- a log sheet has a size limit, as a sheet has. The const of src/lib.rt is the same number
abbrev pub most_log_bytes : ℕ
most_log_bytes = 65536

-- the text for n corners, m rows and the numbers of a log
abbrev pub log_text : ℕ → ℕ → List ℕ → List ℕ
log_text n m log = first_line_lem LOG n m ++ record_lines (count log) log

-- b is the log sheet of n corners, m rows and the numbers of a log
pub record LogSheetOf (b : List ℕ) (n m : ℕ) (log : List ℕ) : Type 0 where
  pub text : b ≡ log_text n m log
  pub whole : WholeRecords log
  -- one to six digits
  pub counts_short : FewDigits most_digits (pos n ∷ pos m ∷ [])
  pub short : FewDigits most_digits (map pos log)

-- the form of some line is bad, or something else stands among the lines or after them
abbrev pub NoLogSheet : List ℕ → Type 0
NoLogSheet b = (n m : ℕ) (log : List ℕ) → ¬ LogSheetOf b n m log

-- counts inside the limits, and no more than corners - 4 records
pub record CountsIn (n m records : ℕ) : Type 0 where
  pub few : least_corners ≤ n
  pub many : n ≤ most_corners
  pub least : least_rows ≤ m
  pub most : m ≤ most_rows
  pub fewer : records ≤ n - least_corners
