-- The exact sixfold volume of a stage.
use Rattle.std.specs.Prelude.{List, [], ◌∷◌, ℕ, ℤ, pos, ◌+ℤ◌, ◌-ℤ◌, ◌*ℤ◌}
use Rattle.surface.specs.Rows.{Row, row}
use Rattle.distance.specs.Corners.{coordinate}

-- b and c in the coordinates j and k: their determinant of two by two
unfoldable pub minor : List ℤ → ℕ → ℕ → ℕ → ℕ → ℤ
minor xs b c j k = coordinate xs b j *ℤ coordinate xs c k -ℤ coordinate xs b k *ℤ coordinate xs c j

-- the determinant of the three corners, which are its rows, taken along the first
unfoldable pub determinant : List ℤ → ℕ → ℕ → ℕ → ℤ
determinant xs a b c = coordinate xs a 0 *ℤ minor xs b c 1 2 +ℤ coordinate xs a 1 *ℤ minor xs b c 2 0 +ℤ coordinate xs a 2 *ℤ minor xs b c 0 1

-- the exact sixfold volume of a stage is the sum over its rows of the determinant of the three corners, in row order
unfoldable pub sixfold : List ℤ → List Row → ℤ
sixfold xs [] = pos 0
sixfold xs (row a b c ∷ T) = determinant xs a b c +ℤ sixfold xs T
