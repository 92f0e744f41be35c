-- What the readers of lines are asked on and give. A room holds plain numbers or coordinates: up says how one of them stands in a line.
use Rattle.std.specs.Prelude.{◌≡◌, List, ◌++◌, map, ℕ, ℤ}
use Rattle.lines.specs.Lines.{lines, FewDigits}
pub use Rattle.lines.specs.Inner.{LineOf}

-- coordinates stand as they are
abbrev pub same : ℤ → ℤ
same z = z

-- k lines of the word w, each with width numbers
pub record LinesOf {A : Type 0} (up : A → ℤ) (most : ℕ) (w : List ℕ) (width k : ℕ) (l : List ℕ) (ns : List A) (r : List ℕ) : Type 0 where
  pub bytes : l ≡ lines w width k (map up ns) ++ r
  pub short : FewDigits most (map up ns)
