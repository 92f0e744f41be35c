-- What the answer of the log sheet's reader tells: the number and the values of each case.
use Rattle.std.specs.Prelude.{[], ◌∷◌, pos, Result, Ok, Err}
use Rattle.refusal.specs.Told.{Told, done, refused}
use Rattle.refusal.specs.declared.Refusal.{Refusal}
use Rattle.logsheet.specs.declared.LogCounts.{LogCounts}

abbrev pub told : Result LogCounts Refusal → Told
-- 0, the corner count, the row count and the records
told (Ok c) = done (pos c.corners ∷ pos c.rows ∷ pos c.records ∷ [])
-- the refusal's number
told (Err r) = refused r
