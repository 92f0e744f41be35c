-- The verdict on undoing a flip log, line by line.
use mathlib.Core.Path.{sym}
use mathlib.Core.List.{List}
use Prim.Native.Nat.{ℕ}
use Rattle.std.specs.Prelude.{Err, Result}
use Rattle.refusal.specs.declared.Refusal.{Refusal}
use Rattle.refusal.specs.declared.Refusal.TheVariants.{CountsOutside}
use Rattle.refusal.proofs.Laws.{verdicts, rest_decides, given_first, refused_passes, none_yet, ◌nor◌}
use Rattle.faults.specs.Inner.{CheckedStage}
use Rattle.faults.proofs.Order.{after_2}
use Rattle.slots.proofs.Slots.{whole_rows}
use Rattle.undoflips.specs.Outcome.{UndoFits, undo_refusals}
use Rattle.undoflips.specs.Inner.{JudgedUndoing}

module _ (n : ℕ) (t log : List ℕ) where
  pub judge_2 : (¬ UndoFits n t log) → JudgedUndoing n t log (Err CountsOutside)
  judge_2 e = record { holds = unfold undo_refusals in given_first verdicts none_yet e; table = λ p. refused_passes p }

  pub judge_on : UndoFits n t log → {v : Result Unit Refusal} → CheckedStage n t v → JudgedUndoing n t log v
  judge_on fits {v} c = record {
    holds = unfold undo_refusals in rest_decides verdicts ((λ k. k fits) nor none_yet) v (after_2 n t v fits.counts c.holds);
    table = λ e. record { count = sym (whole_rows t fits.counts.table.threes); stage = c.stage e };
  }
