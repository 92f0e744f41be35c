-- 5 of a log, record by record; and the refusals of a shift in order.
use mathlib.Core.Path.{subst}
use mathlib.Core.Logic.{inl, inr}
use mathlib.Core.List.{List, ◌∷◌}
use Prim.Native.Nat.{ℕ, ◌*◌, ◌/◌, ◌≤◌, ◌<◌}
use native.Mathlib.Omega.{arith}
use lib.IntN.{ℤ}
use lib.ListN.{length}
use Rattle.std.specs.Prelude.{Ok, Err}
use Rattle.surface.specs.Record.{Record}
use Rattle.corners.specs.Skin.{InRange}
use Rattle.refusal.specs.declared.Refusal.{Refusal}
use Rattle.refusal.specs.declared.Refusal.TheVariants.{CountsOutside, CoordinateOutOfRange, NumberNotBelow}
use Rattle.refusal.specs.First.{Clause, Refusals}
use Rattle.refusal.proofs.Laws.{verdicts, given_first, passes_none, refused_passes, NoneBefore, none_yet, ◌nor◌}
use Rattle.record.specs.Layout.{width, record_at, records}
use Rattle.faults.specs.Counts.{corners}
use Rattle.faults.specs.Words.{OutOfRange}
use Rattle.faults.proofs.Opposites.{in_or_out}
use Rattle.shift.specs.Order.{ShiftFits, PastIn, kept_past, removed_past, Past, shift_refusals}
use Rattle.shift.specs.Inner.{BelowIn, CheckedShift}
use Rattle.record.proofs.Places.{in_records, records_in}

-- ---- 5 of a log

-- kept and removed of a record are below the count
pub record Both (n : ℕ) (log : List ℕ) (j : ℕ) : Type 0 where
  pub kept : (record_at log (width * j)).kept < n
  pub removed : (record_at log (width * j)).removed < n

module _ (log : List ℕ) (n : ℕ) where
  pub past_kept : (j : ℕ) → j < length log / width → n ≤ (record_at log (width * j)).kept → PastIn n (records log)
  past_kept j h p = kept_past (in_records log j h) p

  pub past_removed : (j : ℕ) → j < length log / width → n ≤ (record_at log (width * j)).removed → PastIn n (records log)
  past_removed j h p = removed_past (in_records log j h) p

  pub all_below : ((j : ℕ) → j < length log / width → Both n log j) → BelowIn n (records log)
  all_below f = record {
    kept = λ m. let p = records_in log m in subst (λ (k : Record). k.kept < n) p.2 (f p.0 p.1).kept;
    removed = λ m. let p = records_in log m in subst (λ (k : Record). k.removed < n) p.2 (f p.0 p.1).removed;
  }

-- ---- 2, 4 and 5 in order

past_or_below : {n v : ℕ} {l : List Record} → v < n → BelowIn n l → ¬ Past n l v
past_or_below a b (inl h) = omega arith
past_or_below a b (inr (kept_past m h)) = let k = b.kept m in omega arith
past_or_below a b (inr (removed_past m h)) = let k = b.removed m in omega arith

module _ (xs : List ℤ) (log : List ℕ) (v : ℕ) where
  -- by a line that is given, where none before it is
  refuse : {c : Clause Refusal} {m : Refusals} → NoneBefore (c ∷ m) (shift_refusals xs log v) → c.given → CheckedShift xs log v (Err c.refusal)
  refuse h g = record { holds = given_first verdicts h g; clear = λ e. refused_passes e }

  pub refuse_2 : (¬ ShiftFits xs log) → CheckedShift xs log v (Err CountsOutside)
  unfolding shift_refusals
  refuse_2 p = refuse none_yet p

  module _ (fit : ShiftFits xs log) where
    pub refuse_4 : OutOfRange xs → CheckedShift xs log v (Err CoordinateOutOfRange)
    unfolding shift_refusals
    refuse_4 p = refuse ((λ n. n fit) nor none_yet) p

    module _ (range : InRange xs) where
      pub refuse_5 : Past (corners xs) (records log) v → CheckedShift xs log v (Err NumberNotBelow)
      unfolding shift_refusals
      refuse_5 p = refuse ((λ n. n fit) nor in_or_out range nor none_yet) p

      pub all_clear : v < corners xs → BelowIn (corners xs) (records log) → CheckedShift xs log v (Ok tt)
      unfolding shift_refusals
      all_clear a b = record {
        holds = (passes_none verdicts _).1 ((λ n. n fit) nor in_or_out range nor past_or_below a b nor none_yet);
        clear = λ e. record { fits = fit; in_range = range; asked = a; below = b };
      }
