-- A contraction of a flat table, by tests that compute.
use Rattle.std.specs.Prelude.{◌≡◌, Bool, cond, ◌&&◌, ◌||◌, List, [], ◌∷◌, ◌++◌, ℕ, ◌+◌, eqb, length, get_or}
use Rattle.std.proofs.lemmas.List.Edits.{sets}

-- the row x, y, z holds a
unfoldable pub has : ℕ → ℕ → ℕ → ℕ → Bool
has a x y z = eqb x a || (eqb y a || eqb z a)

-- a for b
unfoldable pub swap : ℕ → ℕ → ℕ → ℕ
swap a b x = cond (eqb x b) a x

-- the row leaves where it holds both
abbrev pub leaves : ℕ → ℕ → ℕ → ℕ → ℕ → Bool
leaves a b x y z = has a x y z && has b x y z

-- what becomes of a row: nothing where it leaves
unfoldable pub row_after : ℕ → ℕ → ℕ → ℕ → ℕ → List ℕ
row_after a b x y z = cond (leaves a b x y z) [] (swap a b x ∷ swap a b y ∷ swap a b z ∷ [])

unfoldable pub after : ℕ → ℕ → List ℕ → List ℕ
after a b [] = []
after a b (x ∷ []) = []
after a b (x ∷ y ∷ []) = []
after a b (x ∷ y ∷ z ∷ t) = row_after a b x y z ++ after a b t

-- the row from place i of l on
abbrev pub row_from : ℕ → ℕ → List ℕ → ℕ → List ℕ
row_from a b l i = row_after a b (get_or l i 0) (get_or l (i + 1) 0) (get_or l (i + 2) 0)

-- the row at i has gone to j, or left: r is the next place, m the table
pub record Moved (l : List ℕ) (i j a b r : ℕ) (m : List ℕ) : Type 0 where
  pub next : r ≡ j + length (row_from a b l i)
  pub wrote : m ≡ sets l j (row_from a b l i)
