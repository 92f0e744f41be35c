-- The verdict on a replay, line by line.
use mathlib.Core.Path.{sym}
use mathlib.Core.List.{List}
use Prim.Native.Nat.{ℕ}
use Rattle.std.specs.Prelude.{Err, Result}
use Rattle.refusal.specs.declared.Refusal.{Refusal}
use Rattle.refusal.specs.declared.Refusal.TheVariants.{CountsOutside}
use Rattle.refusal.proofs.Laws.{verdicts, rest_decides, given_first, refused_passes, none_yet, ◌nor◌}
use Rattle.faults.specs.Inner.{CheckedStage}
use Rattle.faults.proofs.Order.{after_2}
use Rattle.slots.proofs.Slots.{whole_rows}
use Rattle.replay.specs.Outcome.{ReplayFits, replay_refusals}
use Rattle.replay.specs.Inner.{JudgedReplay}

module _ (n : ℕ) (t log : List ℕ) where
  pub judge_2 : (¬ ReplayFits n t log) → JudgedReplay n t log (Err CountsOutside)
  judge_2 e = record { holds = unfold replay_refusals in given_first verdicts none_yet e; stage = λ p. refused_passes p }

  pub judge_on : ReplayFits n t log → {v : Result Unit Refusal} → CheckedStage n t v → JudgedReplay n t log v
  judge_on fits {v} c = record {
    holds = unfold replay_refusals in rest_decides verdicts ((λ k. k fits) nor none_yet) v (after_2 n t v fits.counts c.holds);
    stage = λ e. record { count = sym (whole_rows t fits.counts.table.threes); stage = c.stage e };
  }
