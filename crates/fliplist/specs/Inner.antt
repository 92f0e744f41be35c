-- What the functions below `flip_list` are asked on and give; inner.
use Rattle.std.specs.Prelude.{◌≡◌, List, ℕ, ◌≤◌, length, Ok, Result}
use Rattle.refusal.specs.declared.Refusal.{Refusal}
use Rattle.follow.specs.Inner.{FollowedIn}
use Rattle.surface.specs.InnerStageTable.{StageTable}
use Rattle.refusal.specs.First.{First}
use Rattle.flipped.specs.declared.FlipHalt.{FlipHalt}
use Rattle.fliplist.specs.Outcome.{flip_room, flip_refusals, flipping}

-- a stage's table, with room for the records of all listed edges
pub record FlipReady (t edges log : List ℕ) : Type 0 where
  pub corners : ℕ
  pub table : StageTable corners t
  pub fits : flip_room edges ≤ length log

-- the verdict on a list: the first that holds; and where none does, a stage, with room
pub record JudgedFlips (n : ℕ) (t edges log : List ℕ) (v : Result Unit Refusal) : Type 0 where
  pub holds : First (flip_refusals n t edges log) v
  pub table : v ≡ Ok tt → StageTable n t
  pub room : v ≡ Ok tt → flip_room edges ≤ length log

-- the edges are followed, whatever corner count is told
pub record FlippedOn (t edges log : List ℕ) (a : Result ℕ FlipHalt) (t' log' : List ℕ) : Type 0 where
  pub followed : (n : ℕ) → FollowedIn (flipping n t edges log) a (record { table = t'; log = log' })
