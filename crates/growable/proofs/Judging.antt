-- The verdict on growing back, line by line.
use mathlib.Core.Path.{◌≡◌}
use mathlib.Core.List.{List}
use Prim.Native.Nat.{ℕ, ◌*◌, ◌≤◌, ◌<◌}
use native.Mathlib.Omega.{arith}
use lib.ListN.{length}
use lib.Seq.{length-take-le}
use Rattle.std.specs.Prelude.{Err, Result}
use Rattle.refusal.specs.declared.Refusal.{Refusal}
use Rattle.refusal.specs.declared.Refusal.TheVariants.{CountsOutside, RoomShort}
use Rattle.refusal.specs.First.{First}
use Rattle.refusal.proofs.Laws.{verdicts, rest_decides, given_first, refused_passes, none_yet, ◌nor◌}
use Rattle.faults.specs.Counts.{CountsFit}
use Rattle.faults.specs.Inner.{CheckedStage}
use Rattle.faults.proofs.Order.{after_2}
use Rattle.record.proofs.Front.{standing_length}
use Rattle.growable.specs.Refusals.{GrowFits, room_need, grow_refusals}
use Rattle.growable.specs.Inner.{JudgedGrowing}
use Rattle.record.specs.Front.{front_rows}

module _ (n m : ℕ) (room log : List ℕ) where
  no : {r : Refusal} → First (grow_refusals n m room log) (Err r) → JudgedGrowing n m room log (Err r)
  no f = record { holds = f; room_enough = λ e. refused_passes e; stage = λ e. refused_passes e }

  pub judge_2 : (¬ GrowFits n m log) → JudgedGrowing n m room log (Err CountsOutside)
  judge_2 e = no (unfold grow_refusals in given_first verdicts none_yet e)

  module _ (fits : GrowFits n m log) where
    pub judge_3 : length room < room_need m log → JudgedGrowing n m room log (Err RoomShort)
    judge_3 e = no (unfold grow_refusals in given_first verdicts ((λ k. k fits) nor none_yet) e)

    module _ (h : room_need m log ≤ length room) where
      three : length (front_rows m room) ≡ 3 * m
      three = length-take-le (3 * m) room (omega arith)

      pub counts_told : CountsFit n (front_rows m room)
      counts_told = record { table = record { threes = let e = three in omega arith; count = rw (standing_length m room (omega arith)) fits.rows }; count = fits.corners }

      pub judge_on : {v : Result Unit Refusal} → CheckedStage n (front_rows m room) v → JudgedGrowing n m room log v
      judge_on {v} c = record {
        holds = unfold grow_refusals in rest_decides verdicts ((λ k. k fits) nor (λ k. omega arith) nor none_yet) v (after_2 n (front_rows m room) v counts_told c.holds);
        room_enough = λ e. h;
        stage = c.stage;
      }
