-- What the answer of a volume, a change or an exact sum tells: 01's number and the values of each case.
use Rattle.std.specs.Prelude.{[], ◌∷◌, pos, Ok, Err, Result, ℤ}
use Rattle.wide.specs.declared.Wide.{Wide}
use Rattle.refusal.specs.declared.Refusal.{Refusal}
use Rattle.refusal.specs.Told.{Told, done, refused}

abbrev pub told : Result ℤ Refusal → Told
-- 0 and the figure
told (Ok f) = done (f ∷ [])
-- the refusal's number
told (Err r) = refused r

abbrev pub told_exact : Result Wide Refusal → Told
-- 0, the whole part and the rest
told_exact (Ok w) = done (w.whole ∷ pos w.rest ∷ [])
told_exact (Err r) = refused r
