-- Undoing a flip log in 02's words: the refusals in their order, or the records undone, the last first, and what that leaves.
use Rattle.std.specs.Prelude.{◌≡◌, false, List, ◌∷◌, reverse, ℕ, Ok, Err, Result}
use Rattle.follow.specs.Follow.{Call, Outcome}
use Rattle.surface.specs.Rows.{Row, rows, flat}
use Rattle.surface.specs.Stage.{Stage}
use Rattle.flips.specs.Flip.{Flip}
use Rattle.flips.specs.Undo.{Undone}
use Rattle.refusal.specs.declared.Refusal.{Refusal}
use Rattle.refusal.specs.declared.Refusal.TheVariants.{CountsOutside}
use Rattle.refusal.specs.First.{Refusals, ◌when◌, First}
use Rattle.faults.specs.Counts.{CountsFit}
use Rattle.faults.specs.Order.{row_refusals}
use Rattle.laid.specs.Laid.{items, WholeItems}
use Rattle.flipped.specs.declared.FlipRefusal.{FlipRefusal}
use Rattle.flipped.specs.declared.FlipRefusal.TheVariants.{UndoFails}
use Rattle.flipped.specs.declared.FlipHalt.{FlipHalt}
use Rattle.flipped.specs.Answer.{flipped}
use Rattle.fliplog.specs.Layout.{flip_log}

-- not 2: the table and the corner count are within their limits, and the log is a multiple of 8
pub record UndoFits (n : ℕ) (t log : List ℕ) : Type 0 where
  pub counts : CountsFit n t
  pub whole : WholeItems flip_log log

-- 2, then 5 to 8, 10 and 11 of the table, a stage's
unfoldable pub undo_refusals : ℕ → List ℕ → List ℕ → Refusals
undo_refusals n t log = (CountsOutside when (¬ UndoFits n t log)) ∷ row_refusals false n (rows t)

-- 32: the record is undone to no table
abbrev pub NotUndone : ℕ → List Row → Flip → FlipRefusal → Type 0
NotUndone n T k r = ((T₀ : List Row) → ¬ Undone n T k T₀) × (r ≡ UndoFails)

-- undoing a flip log on the table t over n corners
abbrev pub undoing : ℕ → List ℕ → List ℕ → Call (List Row) Flip FlipRefusal Refusal (Result ℕ FlipHalt) (List ℕ)
undoing n t log = record {
  -- the first that holds; where none does, the table is a stage
  Given = λ e. First (undo_refusals n t log) (Err e);
  Else = First (undo_refusals n t log) (Ok tt) × Stage n (rows t);
  -- "last record first"
  items = reverse (items flip_log log);
  start = rows t;
  Does = Undone n;
  FailsBy = NotUndone n;
  answers = flipped;
  -- refused before any record, the table is unchanged; else it is "the table as reached"
  lent = t;
  left = flat;
}

-- the answer a to undoing, and what then stands in the table
pub record UndoneAs (n : ℕ) (t log : List ℕ) (a : Result ℕ FlipHalt) (t' : List ℕ) : Type 0 where
  pub outcome : Outcome (undoing n t log) a t'
