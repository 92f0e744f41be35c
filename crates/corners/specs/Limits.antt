-- The limit of a coordinate, by one name. The const of src/lib.rt is the same number.
use Rattle.std.specs.Prelude.{ℕ}

-- coordinates from -50,000 to 50,000
abbrev pub most_coordinate : ℕ
most_coordinate = 50000
