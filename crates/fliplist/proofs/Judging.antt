-- The verdict on a list of edges, line by line.
use mathlib.Core.Path.{sym}
use mathlib.Core.List.{List}
use Prim.Native.Nat.{ℕ, ◌≤◌, ◌<◌}
use native.Mathlib.Omega.{arith}
use lib.ListN.{length}
use Rattle.std.specs.Prelude.{Err, Result}
use Rattle.refusal.specs.declared.Refusal.{Refusal}
use Rattle.refusal.specs.declared.Refusal.TheVariants.{CountsOutside, RoomShort}
use Rattle.refusal.proofs.Laws.{verdicts, rest_decides, given_first, refused_passes, none_yet, ◌nor◌}
use Rattle.faults.specs.Inner.{CheckedStage}
use Rattle.faults.proofs.Order.{after_2}
use Rattle.slots.proofs.Slots.{whole_rows}
use Rattle.fliplist.specs.Outcome.{FlipFits, flip_room, flip_refusals}
use Rattle.fliplist.specs.Inner.{JudgedFlips}

module _ (n : ℕ) (t edges log : List ℕ) where
  pub judge_2 : (¬ FlipFits n t edges) → JudgedFlips n t edges log (Err CountsOutside)
  judge_2 e = record { holds = unfold flip_refusals in given_first verdicts none_yet e; table = λ p. refused_passes p; room = λ p. refused_passes p }

  pub judge_3 : FlipFits n t edges → length log < flip_room edges → JudgedFlips n t edges log (Err RoomShort)
  judge_3 fits h = record { holds = unfold flip_refusals in given_first verdicts ((λ k. k fits) nor none_yet) h; table = λ p. refused_passes p; room = λ p. refused_passes p }

  pub judge_on : FlipFits n t edges → flip_room edges ≤ length log → {v : Result Unit Refusal} → CheckedStage n t v → JudgedFlips n t edges log v
  judge_on fits h {v} c = record {
    holds = unfold flip_refusals in rest_decides verdicts ((λ k. k fits) nor (λ k. omega arith) nor none_yet) v (after_2 n t v fits.counts c.holds);
    table = λ e. record { count = sym (whole_rows t fits.counts.table.threes); stage = c.stage e };
    room = λ e. h;
  }
