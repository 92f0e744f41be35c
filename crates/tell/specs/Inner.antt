-- What the inner functions are asked on.
use Rattle.std.specs.Prelude.{◌≡◌, List, ℕ, ◌%◌, ◌≤◌, length}
use Rattle.record.specs.Layout.{WholeRecords}

-- far more numbers than any run has
abbrev pub most_told : ℕ
most_told = 4294967296

-- a table of whole rows and a log of whole records
pub record CanTell (t log : List ℕ) : Type 0 where
  pub threes : length t % 3 ≡ 0
  pub whole : WholeRecords log
  pub table_fits : length t ≤ most_told
  pub log_fits : length log ≤ most_told
