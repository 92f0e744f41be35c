-- The limit of a thinning order: when an edge is short enough.
use Rattle.std.specs.Prelude.{List, ℕ, ℤ, Some, None, Option}
use Rattle.distance.specs.Corners.{Short}

-- its squared length is at most the squared limit; without a limit any edge will do, and no coordinate is named
abbrev pub Allowed : Option ℕ → List ℤ → ℕ → ℕ → Type 0
Allowed None xs a b = Unit
Allowed (Some l) xs a b = Short xs l a b
