-- "Undoing the whole log, last record first, restores the table": the log that flipping a list left, all done or stopped, undone from the table that it left.
use mathlib.Core.Path.{◌≡◌, sym, ◌∙◌, ap}
use mathlib.Core.List.{List, reverse}
use Prim.Native.Nat.{ℕ, ◌*◌}
use native.Mathlib.Omega.{arith}
use lib.ListN.{length, take, length-reverse}
use Rattle.std.specs.Prelude.{Ok, Result}
use Rattle.follow.specs.Leads.{Leads}
use Rattle.follow.proofs.Leading.{leads_back}
use Rattle.follow.proofs.Following.{outcome_whole}
use Rattle.surface.specs.Rows.{rows}
use Rattle.surface.specs.Stage.{Stage}
use Rattle.surface.proofs.Flat.{flat_length}
use Rattle.flips.specs.Undo.{Undone}
use Rattle.flips.proofs.Flips.{flip_stage, flip_undone}
use Rattle.faults.proofs.Opposites.{stage_rows, stage_corners}
use Rattle.laid.specs.Laid.{items}
use Rattle.laid.proofs.Laws.{laid_length, items_laid}
use Rattle.flipped.specs.declared.FlipHalt.{FlipHalt}
use Rattle.flipped.specs.Answer.{told, FlipsTold}
use Rattle.fliplog.specs.Layout.{width, flip_log}
use Rattle.fliplog.proofs.Logging.{flip_log_sound}
use Rattle.fliplist.specs.Outcome.{FlippedAs}
use Rattle.fliplist.specs.Left.{FlipsLeft}
use Rattle.fliplist.proofs.Main.{logged, flipped_table, flips_left}
use Rattle.undoflips.specs.Outcome.{UndoFits, undoing, UndoneAs}
use Rattle.undoflips.proofs.Main.{undoing_plain, undo_passes}

module _ {n : ℕ} {t edges l : List ℕ} {a : Result ℕ FlipHalt} {t' l' : List ℕ} (w : FlippedAs n t edges l a t' l') {k : ℕ} (d : FlipsTold k (told a)) where
  flips : FlipsLeft n t edges l k t' l'
  flips = flips_left w d

  -- the whole log
  abbrev log : List ℕ
  log = take (width * k) l'

  read : items flip_log log ≡ flips.log
  read = ap (items flip_log) flips.front ∙ items_laid flip_log flip_log_sound flips.log

  fits : UndoFits n t' log
  fits =
      let e = flips.same_table in
      let h = sym (flat_length (rows t)) ∙ ap length (flipped_table w d) in
      let m = ap length flips.front ∙ laid_length flip_log flip_log_sound flips.log in
      record {
        counts = record { table = record { threes = omega arith; count = stage_rows flips.kept.after }; count = stage_corners flips.kept.after };
        whole = omega arith;
      }

  -- the records lead back, the last first
  back : Leads (Undone n) (rows t') (reverse (items flip_log log)) (rows t)
  back =
      let r = logged (take k _) flips.flips in
      rw (read ∙ r.2) (leads_back (Stage n) (λ T T' i s f. (flip_stage s f.2, flip_undone s f.2)) flips.kept.before r.1)

  pub undo_restores : {b : Result ℕ FlipHalt} {t'' : List ℕ} → UndoneAs n t' (take (width * k) l') b t'' → (b ≡ Ok k) × (t'' ≡ t)
  undo_restores u =
      let o = outcome_whole (undoing n t' log) (undoing_plain n t' log) (undo_passes n t' log fits flips.kept.after, flips.kept.after) back u.outcome in
      (o.0 ∙ ap Ok (length-reverse (items flip_log log) ∙ ap length read ∙ flips.many), o.1 ∙ flipped_table w d)
