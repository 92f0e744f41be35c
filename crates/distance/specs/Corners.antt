-- Corners by their coordinates. A flat table has three signed whole numbers of centimetres for each corner.
use Rattle.std.specs.Prelude.{List, ℕ, ◌+◌, ◌*◌, ◌≤◌, ℤ, pos, ◌-ℤ◌, nat_abs, get_or}

-- a corner has three signed whole coordinates: coordinate j of the corner v, j being 0, 1 or 2
abbrev pub coordinate : List ℤ → ℕ → ℕ → ℤ
coordinate xs v j = get_or xs (3 * v + j) (pos 0)

-- how far a and b lie apart in coordinate j
abbrev pub gap : List ℤ → ℕ → ℕ → ℕ → ℕ
gap xs a b j = nat_abs (coordinate xs a j -ℤ coordinate xs b j)

-- the squared distance of two corners
unfoldable pub squared_distance_lem : List ℤ → ℕ → ℕ → ℕ
squared_distance_lem xs a b = gap xs a b 0 * gap xs a b 0 + gap xs a b 1 * gap xs a b 1 + gap xs a b 2 * gap xs a b 2

-- the edge from a to b is within a limit of L centimetres: its squared length is at most the squared limit
abbrev pub Short : List ℤ → ℕ → ℕ → ℕ → Type 0
Short xs L a b = squared_distance_lem xs a b ≤ L * L
