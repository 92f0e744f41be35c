-- Replay has one outcome, leaves a stage; and a log that leads from a stage to another is done whole, and leaves the other.
use mathlib.Core.Path.{◌≡◌, sym, ◌∙◌, ap}
use mathlib.Core.List.{List}
use Prim.Native.Nat.{ℕ, ◌-◌, ◌*◌}
use native.Mathlib.Omega.{arith}
use lib.ListN.{length, replicate}
use Rattle.std.specs.Prelude.{Ok, Err, Result}
use Rattle.follow.proofs.Following as following
use Rattle.follow.proofs.Following.{Plain, outcome_one, outcome_whole, outcome_reached}
use Rattle.surface.specs.Rows.{Row, rows, flat}
use Rattle.surface.specs.Stage.{Stage}
use Rattle.surface.specs.Record.{Replayed}
use Rattle.surface.proofs.Main.{left}
use Rattle.run.proofs.Main.{replayed_stage, replayed_rows}
use Rattle.refusal.specs.declared.Refusal.{Refusal}
use Rattle.refusal.specs.First.{First}
use Rattle.refusal.proofs.Laws.{verdicts, first_one, refused_one, refused_passes, rest_decides, none_yet, ◌nor◌}
use Rattle.faults.proofs.Order.{after_2, stage_passes}
use Rattle.record.specs.Layout.{count, records}
use Rattle.record.specs.Front.{standing, zeroed}
use Rattle.record.proofs.Log.{first_length}
use Rattle.record.proofs.Front.{standing_front}
use Rattle.regrow.specs.declared.Halt.{Halt}
use Rattle.regrow.specs.declared.Halt.TheVariants.{Refused}
use Rattle.regrow.specs.Answer.{told, CountTold}
use Rattle.regrow.proofs.Counted.{regrown_apart, did}
use Rattle.replay.specs.Outcome.{ReplayFits, replay_refusals, replaying, ReplayedAs}

-- a record's step leads to one table, or to none
pub replaying_plain : (n : ℕ) (t log : List ℕ) → Plain (replaying n t log)
replaying_plain n t log = record {
  refusal = λ f g. refused_one (first_one verdicts _ f g);
  passing = λ f g. refused_passes (first_one verdicts _ f g.0);
  step = λ T T₁ T₂ k r q. left r q;
  apart = λ f r. f.0 _ r;
  reason = λ f g. f.1 ∙ sym g.1;
}

-- no second outcome satisfies the same words
pub replay_one : {n : ℕ} {t log : List ℕ} {a b : Result ℕ Halt} {t₁ t₂ : List ℕ} → ReplayedAs n t log a t₁ → ReplayedAs n t log b t₂ → (a ≡ b) × (t₁ ≡ t₂)
replay_one {n} {t} {log} v w = outcome_one (replaying n t log) (replaying_plain n t log) v.outcome w.outcome

-- what is refused by another number than 13 is unchanged
pub refused_same : {n : ℕ} {t log : List ℕ} {r : Refusal} {t' : List ℕ} → ReplayedAs n t log (Err (Refused r)) t' → t' ≡ t
refused_same {n} {t} {log} w = following.refused_same (replaying n t log) regrown_apart w.outcome

-- a stage within its counts passes
pub replay_passes : (n : ℕ) (t log : List ℕ) → ReplayFits n t log → Stage n (rows t) → First (replay_refusals n t log) (Ok tt)
replay_passes n t log fits s = unfold replay_refusals in
    rest_decides verdicts ((λ k. k fits) nor none_yet) _ (after_2 n t (Ok tt) fits.counts (stage_passes t fits.counts.table.threes n s))

-- a log that leads from a stage to T' is done whole, and leaves T' in front
pub replays_whole : {n : ℕ} {t log : List ℕ} {a : Result ℕ Halt} {t' : List ℕ} {T' : List Row} → ReplayFits n t log → Stage n (rows t) → Replayed (rows t) (records log) T' →
    ReplayedAs n t log a t' → (a ≡ Ok (count log)) × (t' ≡ zeroed T' t)
replays_whole {n} {t} {log} fits s r w =
    let o = outcome_whole (replaying n t log) (replaying_plain n t log) (replay_passes n t log fits s, s) r w.outcome in
    (o.0 ∙ ap Ok (first_length (count log) log), o.1)

-- what is left is a stage, whatever the log: so many rows as stood, less two for each record done
pub replay_leaves : {n : ℕ} {t log : List ℕ} {a : Result ℕ Halt} {t' : List ℕ} → ReplayedAs n t log a t' → {k : ℕ} → CountTold k (told a) →
    (length (standing (length (rows t) - 2 * k) t') ≡ length (rows t) - 2 * k) × Stage n (standing (length (rows t) - 2 * k) t')
replay_leaves {n} {t} {log} {a} w {k} d =
    let o = outcome_reached (replaying n t log) regrown_apart (did a d) w.outcome in
    let s = o.0.1 in
    let z = replayed_rows s o.3 in
    let m = length (rows t) - 2 * k in
    let l : length o.1 ≡ m = omega (arith, z, o.4) in
    rw (ap (standing m) o.5 ∙ standing_front m o.1 (replicate (length t - length (flat o.1)) 0) l) (l, replayed_stage s o.3)
