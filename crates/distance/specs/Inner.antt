-- What inner functions are asked on and give: no public contract names it.
use Rattle.std.specs.Prelude.{List, ℕ, ◌+◌, ◌*◌, ◌≤◌, ℤ, length}
use Rattle.corners.specs.Limits.{most_coordinate}

-- the table has the corner v
abbrev pub Has : List ℤ → ℕ → Type 0
Has xs v = 3 * v + 3 ≤ length xs

-- at most twice the largest coordinate
abbrev pub gap_bound : ℕ
gap_bound = 2 * most_coordinate
