-- The verdict on a thinning, line by line.
use mathlib.Core.Path.{◌≡◌}
use mathlib.Core.Bool.{true}
use mathlib.Core.List.{List}
use Prim.Native.Nat.{ℕ, ◌≤◌, ◌<◌}
use native.Mathlib.Omega.{arith}
use lib.IntN.{ℤ}
use Rattle.std.specs.Prelude.{Err, Result, Option, Ok}
use Rattle.refusal.specs.declared.Refusal.{Refusal}
use Rattle.refusal.specs.declared.Refusal.TheVariants.{LimitUnusable, CountsOutside, RoomShort}
use Rattle.refusal.specs.First.{First}
use Rattle.refusal.proofs.Laws.{verdicts, rest_decides, given_first, refused_passes, none_yet, ◌nor◌}
use Rattle.faults.specs.Counts.{CountsFitAt}
use Rattle.faults.specs.Inner.{CheckedFirst}
use Rattle.faults.proofs.Order.{after_2_at}
use Rattle.thin.specs.Order.{Asked}
use Rattle.thin.specs.Thin.{log_need, thin_refusals}
use Rattle.thin.specs.Inner.{JudgedThinning}

refused : {a : Asked} {xs : List ℤ} {t : List ℕ} {room : ℕ} {r : Refusal} → First (thin_refusals a xs t room) (Err r) → JudgedThinning a xs t room (Err r)
refused f = record { holds = f; fits = λ e. refused_passes e; skin = λ e. refused_passes e; usable = λ e. refused_passes e; room_enough = λ e. refused_passes e }

module _ (a : Asked) (xs : List ℤ) (t : List ℕ) (room : ℕ) where
  pub judge_1 : a ≡ Err LimitUnusable → JudgedThinning a xs t room (Err LimitUnusable)
  judge_1 e = refused (unfold thin_refusals in given_first verdicts none_yet e)

  module _ (n1 : ¬ (a ≡ Err LimitUnusable)) where
    pub judge_2 : (¬ CountsFitAt xs t) → JudgedThinning a xs t room (Err CountsOutside)
    judge_2 e = refused (unfold thin_refusals in given_first verdicts (n1 nor none_yet) e)

    module _ (n2 : CountsFitAt xs t) where
      pub judge_3 : room < log_need xs → JudgedThinning a xs t room (Err RoomShort)
      judge_3 e = refused (unfold thin_refusals in given_first verdicts (n1 nor (λ k. k n2) nor none_yet) e)

      pub judge_on : {v : Result Unit Refusal} → log_need xs ≤ room → CheckedFirst xs t v → JudgedThinning a xs t room v
      judge_on {v} h c = record {
        holds = unfold thin_refusals in rest_decides verdicts (n1 nor (λ k. k n2) nor (λ k. omega arith) nor none_yet) v (after_2_at true xs t v n2 c.holds);
        fits = λ e. n2;
        skin = c.skin;
        usable = λ e. n1;
        room_enough = λ e. h;
      }

-- a bound is no unusable limit
pub under_usable : {a : Asked} {b : Option ℕ} → a ≡ Ok b → ¬ (a ≡ Err LimitUnusable)
under_usable e k = cc
