-- What the answers of flipping a list and of undoing a log tell: the number and the values of each case.
use Rattle.std.specs.Prelude.{◌≡◌, [], ◌∷◌, ℕ, pos, Ok, Err, Result}
use Rattle.follow.specs.Follow.{Answering}
use Rattle.refusal.specs.declared.Refusal.{Refusal}
use Rattle.refusal.specs.Told as answers
use Rattle.flipped.specs.declared.FlipRefusal.{FlipRefusal}
use Rattle.flipped.specs.declared.FlipHalt.{FlipHalt}
use Rattle.flipped.specs.declared.FlipHalt.TheVariants.{Stopped, Refused}
use Rattle.flipped.specs.Number.{number}

-- 30, 31 or 32, and how many were done before
abbrev pub stopped : FlipRefusal → ℕ → answers.Told
stopped r k = answers.stopped_as (number r) k

abbrev pub told : Result ℕ FlipHalt → answers.Told
-- 0 and how many were done
told (Ok k) = answers.done (pos k ∷ [])
told (Err (Stopped r k)) = stopped r k
-- the refusal's number
told (Err (Refused r)) = answers.refused r

-- k edges or records were done: 0 and k; or 30, 31 or 32 and k
pub data FlipsTold (k : ℕ) (v : answers.Told) : Type 0 where
  all_done : v ≡ answers.done (pos k ∷ []) → FlipsTold k v
  some_done : (r : FlipRefusal) → v ≡ stopped r k → FlipsTold k v

-- as a call that follows a list answers
abbrev pub flipped : Answering FlipRefusal Refusal (Result ℕ FlipHalt)
flipped = record { refused = λ r. Err (Refused r); finished = Ok; stopped = λ r k. Err (Stopped r k) }
