-- "Tables left by steps are stages": what thinning and recovery leave, and what growing back and replay leave after any number of records of any log, done
-- or on 13.
use Rattle.std.specs.Prelude.{◌≡◌, List, ℕ, ◌+◌, ◌-◌, ◌*◌, ℤ, length, Result}
use Rattle.surface.specs.Rows.{rows}
use Rattle.surface.specs.Stage.{Stage}
use Rattle.faults.specs.Counts.{corners}
use Rattle.length.specs.declared.Order.{Order}
use Rattle.record.specs.Front.{standing}
use Rattle.regrow.specs.declared.Halt.{Halt}
use Rattle.regrow.specs.Answer.{told, CountTold}
use Rattle.regrow.specs.Outcome.{GrownAs}
use Rattle.replay.specs.Outcome.{ReplayedAs}
use Rattle.promises.specs.Thinning.{DoneWith}
use Rattle.promises.specs.Recovery.{RecoveredWith, StoppedWith}

-- m rows stand in front of t, and they are a stage over n corners
pub record StageOf (n m : ℕ) (t : List ℕ) : Type 0 where
  pub many : length (standing m t) ≡ m
  pub stage : Stage n (standing m t)

pub record StagesLeft : Type 0 where
  -- each step takes two rows
  pub thin : (o : Order) {xs : List ℤ} {t l : List ℕ} {k : ℕ} {t' l' : List ℕ} → DoneWith o xs t l k t' l' → StageOf (corners xs) (length (rows t) - 2 * k) t'
  pub replay : {n : ℕ} {t log : List ℕ} {a : Result ℕ Halt} {t' : List ℕ} → ReplayedAs n t log a t' → {k : ℕ} → CountTold k (told a) → StageOf n (length (rows t) - 2 * k) t'
  -- and growing back puts them in again
  pub grow_back_lem : {n m : ℕ} {room log : List ℕ} {a : Result ℕ Halt} {room' : List ℕ} → GrownAs n m room log a room' → {k : ℕ} → CountTold k (told a) → StageOf n (m + 2 * k) room'
  -- recovery, done or on 13
  pub recover : (o : Order) {xs : List ℤ} {t l b : List ℕ} {k j : ℕ} {t' l' : List ℕ} → RecoveredWith o xs t l b k j t' l' → StageOf (corners xs) (length (rows t) - 2 * j) t'
  pub recover_stopped : (o : Order) {xs : List ℤ} {t l b : List ℕ} {k : ℕ} {t' l' : List ℕ} → StoppedWith o xs t l b k t' l' → StageOf (corners xs) (length (rows t) - 2 * k) t'
