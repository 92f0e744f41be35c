-- What the functions below `undo_flips` are asked on and give; inner.
use Rattle.std.specs.Prelude.{◌≡◌, List, ℕ, Ok, Result}
use Rattle.refusal.specs.declared.Refusal.{Refusal}
use Rattle.follow.specs.Inner.{FollowedIn}
use Rattle.surface.specs.InnerStageTable.{StageTable}
use Rattle.refusal.specs.First.{First}
use Rattle.flipped.specs.declared.FlipHalt.{FlipHalt}
use Rattle.undoflips.specs.Outcome.{undo_refusals, undoing}

-- a stage's table, whatever its corner count
pub record AnyStage (t : List ℕ) : Type 0 where
  pub corners : ℕ
  pub table : StageTable corners t

-- the verdict on a log: the first that holds; and where none does, a stage
pub record JudgedUndoing (n : ℕ) (t log : List ℕ) (v : Result Unit Refusal) : Type 0 where
  pub holds : First (undo_refusals n t log) v
  pub table : v ≡ Ok tt → StageTable n t

-- the records are followed, whatever corner count is told of which the table is a stage
pub record UndoneOn (t log : List ℕ) (a : Result ℕ FlipHalt) (t' : List ℕ) : Type 0 where
  pub followed : (n : ℕ) → StageTable n t → FollowedIn (undoing n t log) a t'
