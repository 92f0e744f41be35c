-- What the desk's answer tells: 01's number and the values of each case.
use Rattle.std.specs.Prelude.{[], ◌∷◌, ℕ, pos, Result, Ok, Err}
use Rattle.refusal.specs.declared.Refusal.{Refusal}
use Rattle.refusal.specs.Told.{Told, done, refused}

abbrev pub told : Result ℕ Refusal → Told
-- 0 and how many bytes were written
told (Ok n) = done (pos n ∷ [])
-- the refusal's number
told (Err r) = refused r
