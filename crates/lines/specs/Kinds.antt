-- The lines of sheets and of the desk's answer, by their words: one definition for all that reads or writes them.
use Rattle.std.specs.Prelude.{List, [], ◌∷◌, ℕ, ℤ}
use Rattle.record.specs.Layout.{width}
use Rattle.lines.specs.Lines.{lines, plain}

-- the words: C, R, K
abbrev pub C : List ℕ
C = 67 ∷ []

abbrev pub R : List ℕ
R = 82 ∷ []

abbrev pub K : List ℕ
K = 75 ∷ []

-- per corner `C` and three numbers
abbrev pub corner_lines : ℕ → List ℤ → List ℕ
corner_lines n xs = lines C 3 n xs

-- per row `R` and three numbers, which have no minus
abbrev pub row_lines : ℕ → List ℕ → List ℕ
row_lines m t = plain R 3 m t

-- per record `K` and its numbers
abbrev pub record_lines : ℕ → List ℕ → List ℕ
record_lines k log = plain K width k log
