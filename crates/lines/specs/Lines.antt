-- Lines of numbers: "Lines end in one newline; fields are parted by single tabs."
use Rattle.std.specs.Prelude.{◌≡◌, List, [], ◌∷◌, ◌++◌, map, ℕ, zero, suc, ◌≤◌, ℤ, pos, nat_abs, length, take, drop}
use Rattle.text.specs.Decimal.{decimal, signed}

abbrev pub tab : ℕ
tab = 9

abbrev pub newline : ℕ
newline = 10

-- numbers as fields, each after one tab
abbrev pub fields : List ℤ → List ℕ
fields [] = []
fields (z ∷ zs) = tab ∷ (signed z ++ fields zs)

-- a line: its word, its fields, one newline
abbrev pub line : List ℕ → List ℤ → List ℕ
line w zs = w ++ (fields zs ++ (newline ∷ []))

-- k lines of so many numbers each
abbrev pub lines : List ℕ → ℕ → ℕ → List ℤ → List ℕ
lines w width zero zs = []
lines w width (suc k) zs = line w (take width zs) ++ lines w width k (drop width zs)

-- the same of plain numbers, which have no minus
abbrev pub plain : List ℕ → ℕ → ℕ → List ℕ → List ℕ
plain w width k ns = lines w width k (map pos ns)

-- numbers of at most so many digits
abbrev pub FewDigits : ℕ → List ℤ → Type 0
FewDigits most [] = Unit
FewDigits most (z ∷ zs) = (length (decimal (nat_abs z)) ≤ most) × FewDigits most zs

-- a line of the word w stands in front of l, and r follows
pub record LineAt (most : ℕ) (w : List ℕ) (l : List ℕ) (zs : List ℤ) (r : List ℕ) : Type 0 where
  pub bytes : l ≡ line w zs ++ r
  pub short : FewDigits most zs
