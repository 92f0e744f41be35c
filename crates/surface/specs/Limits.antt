-- The limits of a table, each by one name. The consts of src/lib.rt are the same numbers.
use Rattle.std.specs.Prelude.{ℕ}

-- 4 to 1,024 rows
abbrev pub least_rows : ℕ
least_rows = 4

abbrev pub most_rows : ℕ
most_rows = 1024

-- 4 to 514 corners
abbrev pub least_corners : ℕ
least_corners = 4

abbrev pub most_corners : ℕ
most_corners = 514
