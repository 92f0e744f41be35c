-- What the answer of a shift report tells: 01's number and the values of each case.
use Rattle.std.specs.Prelude.{[], ◌∷◌, pos, Ok, Err, Result}
use Rattle.shift.specs.declared.Shifted.{Shifted}
use Rattle.refusal.specs.declared.Refusal.{Refusal}
use Rattle.refusal.specs.Told.{Told, done, refused}

abbrev pub told : Result Shifted Refusal → Told
-- 0, stand-in, count and squared distance
told (Ok s) = done (pos s.stand_in.0 ∷ pos s.count ∷ pos s.squared ∷ [])
-- the refusal's number
told (Err r) = refused r
