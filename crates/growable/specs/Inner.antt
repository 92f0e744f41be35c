-- What the verdict on growing back tells; inner.
use Rattle.std.specs.Prelude.{◌≡◌, List, ℕ, ◌≤◌, length, Ok, Result}
use Rattle.refusal.specs.declared.Refusal.{Refusal}
use Rattle.surface.specs.Stage.{Stage}
use Rattle.refusal.specs.First.{First}
use Rattle.record.specs.Front.{standing}
use Rattle.growable.specs.Refusals.{room_need, grow_refusals}

-- the verdict on growing back: the first that holds; and where none does, a stage, with room
pub record JudgedGrowing (n m : ℕ) (room log : List ℕ) (v : Result Unit Refusal) : Type 0 where
  pub holds : First (grow_refusals n m room log) v
  pub room_enough : v ≡ Ok tt → room_need m log ≤ length room
  pub stage : v ≡ Ok tt → Stage n (standing m room)
