-- The first line of a sheet: its word, the corner count and the row count. "Numbers have one to six digits."
use Rattle.std.specs.Prelude.{List, [], ◌∷◌, ℕ, pos}
use Rattle.lines.specs.Lines.{line, LineAt}

-- of every number of a sheet. The const of src/lib.rt is the same number
abbrev pub most_digits : ℕ
most_digits = 6

abbrev pub first_line_lem : List ℕ → ℕ → ℕ → List ℕ
first_line_lem w n m = line w (pos n ∷ pos m ∷ [])

-- b begins with the first line of the word w, n corners and m rows
pub record Begins (w b : List ℕ) (n m : ℕ) : Type 0 where
  pub rest : List ℕ
  pub line : LineAt most_digits w b (pos n ∷ pos m ∷ []) rest

-- the first line is not in its form
abbrev pub NoFirstLine : List ℕ → List ℕ → Type 0
NoFirstLine w b = (n m : ℕ) → ¬ Begins w b n m
