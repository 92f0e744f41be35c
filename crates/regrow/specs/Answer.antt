-- What the answer of growing back and of replay tells: 01's number and the values of each case.
use Rattle.regrow.specs.declared.Halt.{Halt}
use Rattle.regrow.specs.declared.Halt.TheVariants.{Stopped, Refused}
use Rattle.std.specs.Prelude.{◌≡◌, [], ◌∷◌, ℕ, pos, Ok, Err, Result}
use Rattle.refusal.specs.declared.Refusal.TheVariants.{RecordFails}
use Rattle.refusal.specs.Number.{number}
use Rattle.refusal.specs.Told as answers

-- 13 and how many records were done
abbrev pub fails_after : ℕ → answers.Told
fails_after k = answers.stopped_as (number RecordFails) k

abbrev pub told : Result ℕ Halt → answers.Told
-- 0 and how many records were done
told (Ok k) = answers.done (pos k ∷ [])
told (Err (Stopped k)) = fails_after k
-- the refusal's number
told (Err (Refused r)) = answers.refused r

-- k records were done: 0 and k, or 13 and k
pub data CountTold (k : ℕ) (v : answers.Told) : Type 0 where
  all_done : v ≡ answers.done (pos k ∷ []) → CountTold k v
  some_done : v ≡ fails_after k → CountTold k v
