-- What the answer of growing back and of replay tells of the records done.
use mathlib.Core.Path.{◌≡◌, sym, ap}
use mathlib.Core.List.{[], ◌∷◌}
use Prim.Native.Nat.{ℕ}
use native.Mathlib.Omega.{arith}
use lib.IntN.{pos}
use Rattle.std.specs.Prelude.{Ok, Err, Result}
use Rattle.follow.proofs.Following as following
use Rattle.follow.proofs.Following.{Apart}
use Rattle.refusal.specs.declared.Refusal.{Refusal}
use Rattle.refusal.specs.declared.Refusal.TheVariants.{RecordFails}
use Rattle.refusal.specs.Told.{Told, done, refused}
use Rattle.refusal.specs.Number.{number}
use Rattle.refusal.proofs.Outcome.{refused_done, counted, stopped_other}
use Rattle.regrow.specs.declared.Halt.{Halt}
use Rattle.regrow.specs.declared.Halt.TheVariants.{Stopped, Refused}
use Rattle.regrow.specs.Answer.{told, fails_after, CountTold, all_done, some_done}
use Rattle.regrow.specs.Outcome.{regrown}

not_one : {X : Type 0} → ◌≡◌ {A = ℕ} 0 1 → X
not_one z = absurd (omega arith)

-- the answers are apart
pub regrown_apart : Apart regrown
regrown_apart = record {
  refused_finished = λ e. let z : ◌≡◌ {A = ℕ} 0 1 = cc in not_one z;
  refused_stopped = λ e. let z : ◌≡◌ {A = ℕ} 0 1 = cc in not_one z;
  finished_stopped = λ e. let z : ◌≡◌ {A = ℕ} 0 1 = cc in not_one z;
  finished_one = λ e. cc;
  stopped_one = λ e. cc;
}

-- 13 carries its count, so it is no refusal of a list
pub failing_other : (k : ℕ) (r : Refusal) → ¬ (fails_after k ≡ refused r)
failing_other k r = stopped_other (number RecordFails) k r

-- 13 and a number tell that the records stopped there
pub stops : (a : Result ℕ Halt) (k : ℕ) → told a ≡ fails_after k → a ≡ Err (Stopped k)
unfolding counted
stops (Ok j) k p = let e = ap (λ (v : Told). v.number) p in absurd (omega arith)
stops (Err (Stopped j)) k p = ap (λ (i : ℕ). Err (Stopped i)) (ap counted p)
stops (Err (Refused r)) k p = absurd (failing_other k r (sym p))

-- 0 and a number tell that so many were done
pub finishes : (a : Result ℕ Halt) (k : ℕ) → told a ≡ done (pos k ∷ []) → a ≡ Ok k
unfolding counted
finishes (Ok j) k p = ap Ok (ap counted p)
finishes (Err (Stopped j)) k p = let e = ap (λ (v : Told). v.number) p in absurd (omega arith)
finishes (Err (Refused r)) k p = absurd (refused_done r p)

pub did : (a : Result ℕ Halt) {k : ℕ} → CountTold k (told a) → following.Did regrown k a
did a {k} (all_done p) = following.all_done (finishes a k p)
did a {k} (some_done p) = following.some_done {r = RecordFails} (stops a k p)
