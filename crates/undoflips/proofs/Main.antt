-- Undoing a flip log has one outcome; and what it leaves, done or stopped.
use mathlib.Core.Path.{◌≡◌, sym, ◌∙◌, ap}
use mathlib.Core.List.{List}
use Prim.Native.Nat.{ℕ}
use native.Mathlib.Omega.{arith}
use lib.ListN.{length-reverse}
use Rattle.std.specs.Prelude.{Ok, Err, Result}
use Rattle.follow.proofs.Leading.{leads_keep}
use Rattle.follow.proofs.Following as following
use Rattle.follow.proofs.Following.{Plain, outcome_one}
use Rattle.follow.proofs.Upto.{outcome_upto}
use Rattle.surface.specs.Rows.{rows, flat}
use Rattle.surface.specs.Stage.{Stage}
use Rattle.surface.proofs.Flat.{rows_flat}
use Rattle.flips.proofs.Flips as flips
use Rattle.refusal.specs.declared.Refusal.{Refusal}
use Rattle.refusal.specs.First.{First}
use Rattle.refusal.proofs.Laws.{verdicts, first_one, refused_one, refused_passes, rest_decides, passed, none_yet, ◌nor◌}
use Rattle.faults.proofs.Order.{after_2, stage_passes}
use Rattle.laid.specs.Laid.{count, items}
use Rattle.laid.proofs.Laws.{first_length}
use Rattle.flipped.specs.declared.FlipHalt.{FlipHalt}
use Rattle.flipped.specs.declared.FlipHalt.TheVariants.{Refused}
use Rattle.flipped.specs.Answer.{told, FlipsTold}
use Rattle.flipped.proofs.Telling.{flipped_apart, did}
use Rattle.fliplog.specs.Layout.{flip_log}
use Rattle.flips.specs.Kept.{StageKept}
use Rattle.flips.proofs.Keeping.{kept_none, kept_on, undo_keeps}
use Rattle.fliplist.proofs.Keeping.{whole_table, kept_flat}
use Rattle.undoflips.specs.Outcome.{UndoFits, undo_refusals, undoing, UndoneAs}
use Rattle.undoflips.specs.Left.{UndoneLeft}

-- a record is undone to one table, or to none
pub undoing_plain : (n : ℕ) (t log : List ℕ) → Plain (undoing n t log)
undoing_plain n t log = record {
  refusal = λ f g. refused_one (first_one verdicts _ f g);
  passing = λ f g. refused_passes (first_one verdicts _ f g.0);
  step = λ T T₁ T₂ k u v. flips.undone_one u v;
  apart = λ f u. f.0 _ u;
  reason = λ f g. f.1 ∙ sym g.1;
}

-- no second outcome satisfies the same words
pub undid_one : {n : ℕ} {t log : List ℕ} {a b : Result ℕ FlipHalt} {t₁ t₂ : List ℕ} → UndoneAs n t log a t₁ → UndoneAs n t log b t₂ → (a ≡ b) × (t₁ ≡ t₂)
undid_one {n} {t} {log} v w = outcome_one (undoing n t log) (undoing_plain n t log) v.outcome w.outcome

-- what is refused before any record is unchanged
pub refused_same : {n : ℕ} {t log : List ℕ} {r : Refusal} {t' : List ℕ} → UndoneAs n t log (Err (Refused r)) t' → t' ≡ t
refused_same {n} {t} {log} w = following.refused_same (undoing n t log) flipped_apart w.outcome

-- a stage within its counts passes
pub undo_passes : (n : ℕ) (t log : List ℕ) → UndoFits n t log → Stage n (rows t) → First (undo_refusals n t log) (Ok tt)
undo_passes n t log fits s = unfold undo_refusals in
    rest_decides verdicts ((λ k. k fits) nor none_yet) _ (after_2 n t (Ok tt) fits.counts (stage_passes t fits.counts.table.threes n s))

-- what passes is whole rows
passed_table : (n : ℕ) (t log : List ℕ) → First (undo_refusals n t log) (Ok tt) → flat (rows t) ≡ t
unfolding undo_refusals
passed_table n t log f = whole_table n t (λ m. (passed verdicts _ _ f).0 (λ k. m k.counts))

-- k records told: the last k are undone
pub undone_left : {n : ℕ} {t log : List ℕ} {a : Result ℕ FlipHalt} {t' : List ℕ} → UndoneAs n t log a t' → {k : ℕ} → FlipsTold k (told a) → UndoneLeft n t log k t'
undone_left {n} {t} {log} {a} {t'} w {k} d =
    let o = outcome_upto (undoing n t log) flipped_apart (did a d) w.outcome in
    let s : StageKept n (rows t) o.1 = leads_keep (StageKept n (rows t)) (λ T T' i m u. kept_on m (undo_keeps u)) (kept_none o.0.1) o.2.led in
    let e = kept_flat s (passed_table n t log o.0.0) o.3 in
    record {
      logged = let h = o.2.within in let i = length-reverse (items flip_log log) in let j = first_length flip_log (count flip_log log) log in omega arith;
      undone = rw (ap rows o.3 ∙ rows_flat o.1) o.2.led;
      same_table = e.1;
      kept = e.0;
    }
