-- Replay in 01's words: the refusals in their order, or the stage reached and what it leaves.
use Rattle.std.specs.Prelude.{◌≡◌, false, List, ◌∷◌, ℕ, ◌+◌, ◌*◌, ◌≤◌, length, Ok, Err, Result}
use Rattle.follow.specs.Follow.{Call, Outcome}
use Rattle.surface.specs.Limits.{least_rows}
use Rattle.surface.specs.Rows.{Row, rows}
use Rattle.surface.specs.Stage.{Stage}
use Rattle.surface.specs.Record.{Record, Replays}
use Rattle.refusal.specs.declared.Refusal.{Refusal}
use Rattle.refusal.specs.declared.Refusal.TheVariants.{CountsOutside, RecordFails}
use Rattle.refusal.specs.First.{Refusals, ◌when◌, First}
use Rattle.faults.specs.Counts.{CountsFit}
use Rattle.faults.specs.Order.{row_refusals}
use Rattle.record.specs.Layout.{count, records, WholeRecords}
use Rattle.record.specs.Front.{zeroed}
use Rattle.regrow.specs.declared.Halt.{Halt}
use Rattle.regrow.specs.Outcome.{regrown}

-- not 2: the table and the corner count are within their limits, the log is a multiple of 10, and no fewer than 4 rows would stand
pub record ReplayFits (n : ℕ) (t log : List ℕ) : Type 0 where
  pub counts : CountsFit n t
  pub whole : WholeRecords log
  pub least : least_rows + 2 * count log ≤ length (rows t)

-- 2, then 5 to 11 of the table
unfoldable pub replay_refusals : ℕ → List ℕ → List ℕ → Refusals
replay_refusals n t log = (CountsOutside when (¬ ReplayFits n t log)) ∷ row_refusals false n (rows t)

-- 13: the record's step leads to no table
abbrev pub NotReplayed : List Row → Record → Refusal → Type 0
NotReplayed T k r = ((T₁ : List Row) → ¬ Replays T k T₁) × (r ≡ RecordFails)

-- replaying a log on the table t over n corners
abbrev pub replaying : ℕ → List ℕ → List ℕ → Call (List Row) Record Refusal Refusal (Result ℕ Halt) (List ℕ)
replaying n t log = record {
  -- the first that holds; where none does, the table is a stage
  Given = λ e. First (replay_refusals n t log) (Err e);
  Else = First (replay_refusals n t log) (Ok tt) × Stage n (rows t);
  -- replaying forward
  items = records log;
  start = rows t;
  Does = Replays;
  FailsBy = NotReplayed;
  answers = regrown;
  -- every refusal but 13 leaves the table untouched; else the stage reached stands in front, and the rest of the table's length is zeroed
  lent = t;
  left = λ T. zeroed T t;
}

-- the answer a to replaying, and what then stands in the table
pub record ReplayedAs (n : ℕ) (t log : List ℕ) (a : Result ℕ Halt) (t' : List ℕ) : Type 0 where
  pub outcome : Outcome (replaying n t log) a t'
