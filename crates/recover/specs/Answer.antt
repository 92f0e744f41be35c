-- What recovery's answer tells: the number and the values of each case.
use Rattle.std.specs.Prelude.{[], ◌∷◌, ℕ, pos, Result, Ok, Err}
use Rattle.refusal.specs.declared.Refusal.TheVariants.{RecordFails}
use Rattle.refusal.specs.Number.{number}
use Rattle.refusal.specs.Told.{Told, done, refused}
use Rattle.regrow.specs.declared.Halt.{Halt}
use Rattle.regrow.specs.declared.Halt.TheVariants.{Stopped, Refused}

-- 13, and the records done as those kept and as those there are in all
abbrev pub fails_after : ℕ → Told
fails_after k = record { number = number RecordFails; values = pos k ∷ pos k ∷ [] }

abbrev pub told : Result (ℕ × ℕ) Halt → Told
-- 0, the records kept, and those there are in all
told (Ok c) = done (pos c.0 ∷ pos c.1 ∷ [])
told (Err (Stopped k)) = fails_after k
-- the refusal's number
told (Err (Refused r)) = refused r
