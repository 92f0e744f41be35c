-- How many numbers can be measured at once.
use Rattle.std.specs.Prelude.{ℕ}

-- far more than any text holds; at 21 bytes each their length still fits 64 bits
abbrev pub most_measured : ℕ
most_measured = 4294967296
