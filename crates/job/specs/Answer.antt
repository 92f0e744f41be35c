-- What the answer of a job tells: the number and the values of each case.
use Rattle.std.specs.Prelude.{[], ◌∷◌, Result, Ok, Err, ℤ}
use Rattle.refusal.specs.Told.{Told, done, refused_as}
use Rattle.job.specs.declared.JobRefusal.{JobRefusal}
use Rattle.job.specs.Number.{number}

-- a refusal's number alone
abbrev pub refused : JobRefusal → Told
refused r = refused_as (number r)

abbrev pub told : Result ℤ JobRefusal → Told
-- 0 and the figure of the topmost net
told (Ok f) = done (f ∷ [])
-- the refusal's number
told (Err r) = refused r
