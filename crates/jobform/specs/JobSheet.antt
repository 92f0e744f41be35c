-- A job sheet: "First line `JOB` and the count; then per entry `J`, one capital letter (21 unless `V` or `S`), the entry's number from 0 or `-` for
-- none, and the sum, up to 18 digits; otherwise number and line rules as in 01".
use Rattle.std.specs.Prelude.{◌≡◌, List, [], ◌∷◌, ◌++◌, ℕ, ◌≤◌, pos, nat_abs, length, Option, Some, None}
use Rattle.text.specs.Decimal.{minus, decimal, signed}
use Rattle.lines.specs.Lines.{tab, newline, line, FewDigits}
use Rattle.heading.specs.Heading.{most_digits}
use Rattle.jobform.specs.declared.Entry.{Entry}
use Rattle.jobform.specs.Limits.{most_sum_digits}

-- the words: JOB, J
abbrev pub JOB : List ℕ
JOB = 74 ∷ 79 ∷ 66 ∷ []

abbrev pub J : List ℕ
J = 74 ∷ []

-- the capital letters A to Z
pub record Capital (b : ℕ) : Type 0 where
  pub least : 65 ≤ b
  pub most : b ≤ 90

-- the number of the entry that it stands in, or `-` for none
abbrev pub named : Option ℕ → List ℕ
named None = minus ∷ []
named (Some j) = decimal j

-- an entry's line: its word, then letter, name and sum, each after one tab, and one newline
abbrev pub entry_line : Entry → List ℕ
entry_line e = J ++ (tab ∷ e.letter ∷ tab ∷ (named e.name ++ (tab ∷ (signed e.sum ++ (newline ∷ [])))))

abbrev pub entry_lines : List Entry → List ℕ
entry_lines [] = []
entry_lines (e ∷ es) = entry_line e ++ entry_lines es

-- a name has one to six digits, as every number of a sheet
abbrev pub ShortName : Option ℕ → Type 0
ShortName None = Unit
ShortName (Some j) = length (decimal j) ≤ most_digits

-- an entry as a line may tell it
pub record InForm (e : Entry) : Type 0 where
  pub capital : Capital e.letter
  pub short_name : ShortName e.name
  pub short_sum : length (decimal (nat_abs e.sum)) ≤ most_sum_digits

abbrev pub AllInForm : List Entry → Type 0
AllInForm [] = Unit
AllInForm (e ∷ es) = InForm e × AllInForm es

-- the text of a job's entries: the first line counts them
abbrev pub job_text : List Entry → List ℕ
job_text es = line JOB (pos (length es) ∷ []) ++ entry_lines es

-- b is the job sheet of the entries es
pub record JobSheetOf (b : List ℕ) (es : List Entry) : Type 0 where
  pub text : b ≡ job_text es
  pub short : FewDigits most_digits (pos (length es) ∷ [])
  pub form : AllInForm es

-- the form of some line is bad, or the number of lines is another than the count
abbrev pub NoJobSheet : List ℕ → Type 0
NoJobSheet b = (es : List Entry) → ¬ JobSheetOf b es
