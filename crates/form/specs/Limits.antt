-- The most that a sheet may have, each by one name, apart from the library's limits; the least of rows and corners is the library's. The consts of
-- src/lib.rt are the same numbers.
use Rattle.std.specs.Prelude.{ℕ, ◌*◌}

-- over 65,536 bytes is 12
abbrev pub most_sheet_bytes : ℕ
most_sheet_bytes = 65536

-- at most 1,024 rows and 514 corners
abbrev pub most_sheet_rows : ℕ
most_sheet_rows = 1024

abbrev pub most_sheet_corners : ℕ
most_sheet_corners = 514

-- three numbers for each row, and for each corner
abbrev pub most_numbers : ℕ
most_numbers = most_sheet_rows * 3

abbrev pub most_coordinates : ℕ
most_coordinates = most_sheet_corners * 3
