-- What a thinning's answer tells: 01's number and the values of each case.
use Rattle.std.specs.Prelude.{[], ◌∷◌, pos, Ok, Err, Result, ℕ}
use Rattle.refusal.specs.declared.Refusal.{Refusal}
use Rattle.refusal.specs.Told as answers

abbrev pub told : Result ℕ Refusal → answers.Told
-- 0 and how many records were written
told (Ok k) = answers.done (pos k ∷ [])
-- the refusal's number
told (Err r) = answers.refused r
