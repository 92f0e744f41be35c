-- Growing back has one outcome, leaves a stage; and the log of steps, grown back from where they led, restores the table they began with.
use mathlib.Core.Path.{◌≡◌, sym, ◌∙◌, ap}
use mathlib.Core.List.{List}
use Prim.Native.Nat.{ℕ, ◌+◌, ◌*◌, ◌≤◌, ◌<◌}
use native.Mathlib.Omega.{arith}
use lib.ListN.{length, length-reverse}
use Rattle.std.specs.Prelude.{Ok, Err, Result}
use Rattle.follow.proofs.Following as following
use Rattle.follow.proofs.Following.{Plain, outcome_one, outcome_whole, outcome_reached}
use Rattle.surface.specs.Rows.{Row}
use Rattle.surface.specs.Stage.{Stage}
use Rattle.surface.specs.Record.{Replayed}
use Rattle.growth.proofs.Main as growth
use Rattle.growth.proofs.Recorded.{replayed_grown, grown_back_stage}
use Rattle.run.proofs.Main.{replayed_stage}
use Rattle.refusal.specs.declared.Refusal.{Refusal}
use Rattle.refusal.specs.First.{First}
use Rattle.refusal.proofs.Laws.{verdicts, first_one, refused_one, refused_passes, rest_decides, passed, none_yet, ◌nor◌}
use Rattle.faults.specs.Counts.{CountsFit}
use Rattle.faults.proofs.Order.{after_2, stage_passes}
use Rattle.record.specs.Layout.{count, records}
use Rattle.record.specs.Front.{front_rows, standing, filled}
use Rattle.record.proofs.Log.{first_length}
use Rattle.record.proofs.Front.{standing_length, standing_filled}
use Rattle.regrow.specs.declared.Halt.{Halt}
use Rattle.regrow.specs.declared.Halt.TheVariants.{Refused}
use Rattle.regrow.specs.Answer.{told, CountTold}
use Rattle.growable.specs.Refusals.{GrowFits, room_need, grow_refusals}
use Rattle.growable.proofs.Judging.{counts_told}
use Rattle.regrow.specs.Outcome.{growing, GrownAs}
use Rattle.regrow.proofs.Counted.{regrown_apart, did}
use Rattle.regrow.proofs.Undoing.{grown_rows}

-- a record is accepted to one table, or to none
pub growing_plain : (n m : ℕ) (room log : List ℕ) → Plain (growing n m room log)
growing_plain n m room log = record {
  refusal = λ f g. refused_one (first_one verdicts _ f g);
  passing = λ f g. refused_passes (first_one verdicts _ f g.0);
  step = λ T T₁ T₂ k a b. growth.told a b;
  apart = λ f a. f.0 _ a;
  reason = λ f g. f.1 ∙ sym g.1;
}

-- no second outcome satisfies the same words
pub grown_one : {n m : ℕ} {room log : List ℕ} {a b : Result ℕ Halt} {room₁ room₂ : List ℕ} → GrownAs n m room log a room₁ → GrownAs n m room log b room₂ → (a ≡ b) × (room₁ ≡ room₂)
grown_one {n} {m} {room} {log} v w = outcome_one (growing n m room log) (growing_plain n m room log) v.outcome w.outcome

-- what is refused by another number than 13 is unchanged
pub refused_same : {n m : ℕ} {room log : List ℕ} {r : Refusal} {room' : List ℕ} → GrownAs n m room log (Err (Refused r)) room' → room' ≡ room
refused_same {n} {m} {room} {log} w = following.refused_same (growing n m room log) regrown_apart w.outcome

-- a stage within its counts and with room passes
pub grow_passes : (n m : ℕ) (room log : List ℕ) → GrowFits n m log → room_need m log ≤ length room → Stage n (standing m room) → First (grow_refusals n m room log) (Ok tt)
grow_passes n m room log fits h s = unfold grow_refusals in
    rest_decides verdicts ((λ k. k fits) nor none_yet) _ (rest_decides verdicts ((λ k. omega arith) nor none_yet) _ (after_2 n (front_rows m room) (Ok tt) c (stage_passes (front_rows m room) c.table.threes n s)))
  where
    c : CountsFit n (front_rows m room)
    c = counts_told n m room log fits h

-- the log of steps from T, grown back from where they led, is done whole and leaves T
pub restores : {n m : ℕ} {room log : List ℕ} {a : Result ℕ Halt} {room' : List ℕ} {T : List Row} → GrowFits n m log → room_need m log ≤ length room → Stage n T → Replayed T (records log) (standing m room) →
    GrownAs n m room log a room' → (a ≡ Ok (count log)) × (room' ≡ filled T room)
restores {n} {m} {room} {log} fits h s r w =
    let z = replayed_stage s r in
    let o = outcome_whole (growing n m room log) (growing_plain n m room log) (grow_passes n m room log fits h z, z) (replayed_grown s r) w.outcome in
    (o.0 ∙ ap Ok (length-reverse (records log) ∙ first_length (count log) log), o.1)

not_less : {i j : ℕ} → ¬ (i < j) → j ≤ i
not_less h = omega arith

-- the rows told stand in the room
rows_inside : (n m : ℕ) (room log : List ℕ) → First (grow_refusals n m room log) (Ok tt) → 3 * m ≤ length room
unfolding grow_refusals
rows_inside n m room log f = let h : room_need m log ≤ length room = not_less (passed verdicts _ _ (passed verdicts _ _ f).1).0 in omega arith

-- what is left is a stage, whatever the log: so many rows as stood, and two more for each record done
pub grown_leaves : {n m : ℕ} {room log : List ℕ} {a : Result ℕ Halt} {room' : List ℕ} → GrownAs n m room log a room' → {k : ℕ} → CountTold k (told a) → (length (standing (m + 2 * k) room') ≡ m + 2 * k) × Stage n (standing (m + 2 * k) room')
grown_leaves {n} {m} {room} {log} {a} w {k} d =
    let o = outcome_reached (growing n m room log) regrown_apart (did a d) w.outcome in
    let z = grown_rows n o.3 in
    let h = standing_length m room (rows_inside n m room log o.0.0) in
    let l : length o.1 ≡ m + 2 * k = omega (arith, z, h, o.4) in
    rw (ap (standing (m + 2 * k)) o.5 ∙ standing_filled (m + 2 * k) o.1 room l) (l, grown_back_stage n o.0.1 o.3)
