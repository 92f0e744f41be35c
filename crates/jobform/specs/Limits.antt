-- The limits of a job sheet, each under one name. The consts of src/lib.rt are the same numbers.
use Rattle.std.specs.Prelude.{ℕ}

-- a job sheet has a size limit, as a sheet has
abbrev pub most_job_bytes : ℕ
most_job_bytes = 65536

-- "1 to 32 skins"
abbrev pub most_entries : ℕ
most_entries = 32

-- a sum has "up to 18 digits"
abbrev pub most_sum_digits : ℕ
most_sum_digits = 18
