-- The first that holds of either of two things asked.
use Rattle.std.specs.Prelude.{◌⊎◌, List, [], ◌∷◌}
use Rattle.refusal.specs.First.{Clause, ◌when◌}

-- line by line: a refusal is given when the one list gives it or the other does
unfoldable pub either : {R : Type 0} → List (Clause R) → List (Clause R) → List (Clause R)
either [] m = []
either (c ∷ l) [] = []
either (c ∷ l) (d ∷ m) = (c.refusal when (c.given ⊎ d.given)) ∷ either l m
