-- The answers are apart, and what is told tells how many were done.
use mathlib.Core.Path.{◌≡◌, refl, sym, ◌∙◌, ap}
use mathlib.Core.List.{List, [], ◌∷◌}
use Prim.Native.Nat.{ℕ, ◌-◌, ◌<◌}
use native.Mathlib.Omega.{arith}
use lib.IntN.{pos}
use lib.ListN.{get_or}
use Rattle.std.specs.Prelude.{Ok, Err, Result}
use Rattle.follow.proofs.Following as following
use Rattle.follow.proofs.Following.{Apart}
use Rattle.refusal.specs.declared.Refusal.{Refusal}
use Rattle.refusal.specs.Told.{Told, done, refused}
use Rattle.refusal.proofs.Outcome.{refused_done, counted, stopped_other}
use Rattle.flipped.specs.declared.FlipRefusal.{FlipRefusal}
use Rattle.flipped.specs.declared.FlipRefusal.TheVariants.{EdgeMissing, EdgeBlocked, UndoFails}
use Rattle.flipped.specs.declared.FlipHalt.{FlipHalt}
use Rattle.flipped.specs.declared.FlipHalt.TheVariants.{Stopped, Refused}
use Rattle.flipped.specs.Number.{number}
use Rattle.flipped.specs.Answer.{stopped, told, FlipsTold, all_done, some_done, flipped}

pub flipped_apart : Apart flipped
flipped_apart = record { refused_finished = λ e. cc; refused_stopped = λ e. cc; finished_stopped = λ e. cc; finished_one = λ e. cc; stopped_one = λ e. cc }

-- the refusals in the order of their numbers, from 30 on
in_order : List FlipRefusal
in_order = EdgeMissing ∷ EdgeBlocked ∷ UndoFails ∷ []

-- a number is above 0 and tells its refusal
numbered : (r : FlipRefusal) → (0 < number r) × (get_or in_order (number r - 30) EdgeMissing ≡ r)
unfolding in_order
numbered EdgeMissing = (omega arith, refl)
numbered EdgeBlocked = (omega arith, refl)
numbered UndoFails = (omega arith, refl)

number_one : (r q : FlipRefusal) → number r ≡ number q → r ≡ q
number_one r q e = sym (numbered r).1 ∙ ap (λ (n : ℕ). get_or in_order (n - 30) EdgeMissing) e ∙ (numbered q).1

-- a stop carries its count, so it is no refusal of a list
pub stopping_other : (r : FlipRefusal) (k : ℕ) (e : Refusal) → ¬ (stopped r k ≡ refused e)
stopping_other r k e = stopped_other (number r) k e

-- nor is it done
stopping_done : (r : FlipRefusal) (j k : ℕ) → ¬ (stopped r j ≡ done (pos k ∷ []))
stopping_done r j k p = let n = (numbered r).0 in let e = ap (λ (v : Told). v.number) p in omega arith

-- 30, 31 or 32 and a number tell that it stopped there, and why
pub stops : (a : Result ℕ FlipHalt) (r : FlipRefusal) (k : ℕ) → told a ≡ stopped r k → a ≡ Err (Stopped r k)
unfolding counted
stops (Ok j) r k p = absurd (stopping_done r k j (sym p))
stops (Err (Stopped q j)) r k p = λ i. Err (Stopped (number_one q r (ap (λ (v : Told). v.number) p) i) (ap counted p i))
stops (Err (Refused e)) r k p = absurd (stopping_other r k e (sym p))

-- 0 and a number tell that so many were done
pub finishes : (a : Result ℕ FlipHalt) (k : ℕ) → told a ≡ done (pos k ∷ []) → a ≡ Ok k
unfolding counted
finishes (Ok j) k p = ap Ok (ap counted p)
finishes (Err (Stopped r j)) k p = absurd (stopping_done r j k p)
finishes (Err (Refused r)) k p = absurd (refused_done r p)

pub did : (a : Result ℕ FlipHalt) {k : ℕ} → FlipsTold k (told a) → following.Did flipped k a
did a {k} (all_done p) = following.all_done (finishes a k p)
did a {k} (some_done r p) = following.some_done {r = r} (stops a r k p)
