-- What the functions below `replay` give; inner.
use Rattle.std.specs.Prelude.{◌≡◌, List, ℕ, Ok, Result}
use Rattle.refusal.specs.declared.Refusal.{Refusal}
use Rattle.surface.specs.InnerStageTable.{StageTable}
use Rattle.refusal.specs.First.{First}
use Rattle.replay.specs.Outcome.{replay_refusals}

-- the verdict on a replay: the first that holds; and where none does, a stage
pub record JudgedReplay (n : ℕ) (t log : List ℕ) (v : Result Unit Refusal) : Type 0 where
  pub holds : First (replay_refusals n t log) v
  pub stage : v ≡ Ok tt → StageTable n t
