-- Growing back in 01's words: a refusal, or the rows reached and what they leave.
use Rattle.regrow.specs.declared.Halt.{Halt}
use Rattle.regrow.specs.declared.Halt.TheVariants.{Stopped, Refused}
use Rattle.std.specs.Prelude.{◌≡◌, List, reverse, ℕ, Ok, Err, Result}
use Rattle.follow.specs.Follow.{Answering, Call, Outcome}
use Rattle.surface.specs.Rows.{Row}
use Rattle.surface.specs.Stage.{Stage}
use Rattle.surface.specs.Record.{Record}
use Rattle.growth.specs.Accept.{Accepted}
use Rattle.refusal.specs.declared.Refusal.{Refusal}
use Rattle.refusal.specs.declared.Refusal.TheVariants.{RecordFails}
use Rattle.refusal.specs.First.{First}
use Rattle.record.specs.Layout.{records}
use Rattle.record.specs.Front.{standing, filled}
use Rattle.growable.specs.Refusals.{grow_refusals}

-- the answers of growing back and of replay: both answer how many records were done
abbrev pub regrown : Answering Refusal Refusal (Result ℕ Halt)
regrown = record { refused = λ e. Err (Refused e); finished = Ok; stopped = λ r k. Err (Stopped k) }

-- 13: the record is accepted to no table
abbrev pub NotAccepted : ℕ → List Row → Record → Refusal → Type 0
NotAccepted n T k r = ((T₀ : List Row) → ¬ Accepted n T k T₀) × (r ≡ RecordFails)

-- growing back a log on the m rows over n corners that stand in a room
abbrev pub growing : ℕ → ℕ → List ℕ → List ℕ → Call (List Row) Record Refusal Refusal (Result ℕ Halt) (List ℕ)
growing n m room log = record {
  -- the first that holds; where none does, the rows that stand are a stage
  Given = λ e. First (grow_refusals n m room log) (Err e);
  Else = First (grow_refusals n m room log) (Ok tt) × Stage n (standing m room);
  -- a log is grown back from its last record to its first
  items = reverse (records log);
  start = standing m room;
  Does = Accepted n;
  FailsBy = NotAccepted n;
  answers = regrown;
  -- every refusal but 13 leaves all untouched; else the rows reached stand in the room, and what lies past them is as it was
  lent = room;
  left = λ T. filled T room;
}

-- the answer a to growing back, and what then stands in the room
pub record GrownAs (n m : ℕ) (room log : List ℕ) (a : Result ℕ Halt) (room' : List ℕ) : Type 0 where
  pub outcome : Outcome (growing n m room log) a room'
