-- What the sheet reader's answer tells: 01's number and the values of each case.
use Rattle.std.specs.Prelude.{[], ◌∷◌, pos, Result, Ok, Err, ℕ}
use Rattle.refusal.specs.declared.Refusal.{Refusal}
use Rattle.refusal.specs.Told.{Told, done, refused}

abbrev pub told : Result (ℕ × ℕ) Refusal → Told
-- 0, the corner count and the row count
told (Ok p) = done (pos p.0 ∷ pos p.1 ∷ [])
-- the refusal's number
told (Err r) = refused r
