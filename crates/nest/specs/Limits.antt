-- The limits of a job, each under one name. The consts of src/lib.rt are the same numbers.
use Rattle.std.specs.Prelude.{ℕ}

-- "nesting is at most 8 deep with the first at depth 1"
abbrev pub most_depth : ℕ
most_depth = 8

-- "768,000,000,000,000,000 either way (1,024 rows of six products at the coordinate limit)"
abbrev pub most_sum : ℕ
most_sum = 768000000000000000
