-- The run from a sheet's skin: the engine has room, and what it leaves is told.
use mathlib.Core.Path.{◌≡◌, refl, ◌∙◌, ap, subst}
use mathlib.Core.List.{List, [], ◌∷◌, ◌++◌}
use Prim.Native.Nat.{ℕ, ◌+◌, ◌-◌, ◌*◌, ◌/◌, ◌≤◌}
use native.Mathlib.Omega.{arith}
use lib.IntN.{ℤ, pos}
use lib.ListN.{length, length-append, take, drop, replicate, length-replicate}
use lib.Seq.{take_at}
use Rattle.std.specs.Prelude.{Result, None}
use Rattle.refusal.specs.declared.Refusal.{Refusal}
use Rattle.surface.specs.Rows.{Row, rows, flat}
use Rattle.surface.specs.Record.{Record}
use Rattle.surface.proofs.Flat.{rows_flat, flat_length, rows_length}
use Rattle.faults.specs.Counts.{corners}
use Rattle.run.proofs.Main.{taken_replayed, replayed_rows, replayed_stage}
use Rattle.record.specs.Layout.{width, log_of}
use Rattle.record.proofs.Log.{log_length}
use Rattle.figure.specs.Sum.{sixfold}
use Rattle.figure.specs.Inner.{WithCoordinates}
use Rattle.wide.specs.Rounding.{figure}
use Rattle.figure.proofs.Sizes.{stage_coordinates}
use Rattle.least.specs.Limited.{Allowed}
use Rattle.going.specs.Going.{CanGoOn, WentOn}
use Rattle.engine.proofs.Whole.{Went, ready, went}
use Rattle.lines.specs.Lines.{line}
use Rattle.lines.specs.Kinds.{row_lines, record_lines}
use Rattle.tell.specs.Text.{OK, run_text, ok_text}
use Rattle.tell.specs.Put.{Put}
use Rattle.tell.specs.Inner.{CanTell}
use Rattle.reply.specs.Inner.{most_logged, SheetSkin, RunPut}

-- the text of a last stage and its log is that of the run
run_told : (xs : List ℤ) (T : List Row) (log : List Record) (last : List Row) → run_text (flat last) (log_of log) (figure (sixfold xs T)) (figure (sixfold xs last)) ≡ ok_text xs T log last
unfolding run_text ok_text
run_told xs T log last =
    let a = flat_length last in
    let b = log_length log in
    let e : length (flat last) / 3 ≡ length last = omega arith in
    let f : length (log_of log) / width ≡ length log = omega arith in
    λ i. line OK (pos (e i) ∷ pos (f i) ∷ figure (sixfold xs T) ∷ figure (sixfold xs last) ∷ []) ++ (row_lines (e i) (flat last) ++ record_lines (f i) (log_of log))

abbrev pub no_log : List ℕ
no_log = replicate most_logged 0

module _ {xs : List ℤ} {t : List ℕ} (s : SheetSkin xs t) where
  pub first_coordinates : WithCoordinates (rows t) xs
  first_coordinates = stage_coordinates s.skin.stage s.skin.corners s.skin.in_range

  -- the log is long enough for whatever the engine may do
  pub can_go_on : CanGoOn (corners xs) t (length t / 3) no_log 0
  can_go_on = let m = s.many in let n = length-replicate {A = ℕ} most_logged 0 in ready t s.threes s.skin.stage no_log (omega arith)

  module _ {k : ℕ} {t' l' : List ℕ} (o : WentOn (Allowed None xs) t (length t / 3) no_log 0 k t' l') (same : length l' ≡ most_logged) where
    w : Went (Allowed None xs) t no_log k t' l'
    w = went t s.threes o

    -- three numbers for each row left, ten for each record
    left_numbers : length t ≡ length (flat w.last) + k * 6
    left_numbers =
        let h = s.threes in
        let c = w.count in
        let r = replayed_rows s.skin.stage (taken_replayed w.run.taken) in
        let n : length (rows t) ≡ length t / 3 = rows_length (length t / 3) t (omega arith) in
        omega (arith, flat_length w.last)

    logged_numbers : length (log_of w.log) ≡ k * width
    logged_numbers = let c = w.count in omega (arith, log_length w.log)

    pub log_room : k * width ≤ most_logged
    log_room =
        let n = ap length w.logged ∙ length-append (log_of w.log) (drop (width * length w.log) no_log) in
        omega (arith, logged_numbers)

    module _ (whole : length t' ≡ length t) where
      pub left_room : k * 6 ≤ length t'
      left_room = let h = left_numbers in omega arith

      last_stands : take (length t' - k * 6) t' ≡ flat w.last
      last_stands = let h = left_numbers in ap (take (length t' - k * 6)) w.table ∙ take_at (flat w.last) (replicate (length t - length (flat w.last)) 0) (length t' - k * 6) (omega arith)

      log_stands : take (k * width) l' ≡ log_of w.log
      log_stands = ap (take (k * width)) w.logged ∙ take_at (log_of w.log) (drop (width * length w.log) no_log) (k * width) logged_numbers

      pub last_coordinates : WithCoordinates (rows (take (length t' - k * 6) t')) xs
      last_coordinates = rw (last_stands, rows_flat w.last) (stage_coordinates (replayed_stage s.skin.stage (taken_replayed w.run.taken)) s.skin.corners s.skin.in_range)

      pub can_tell : CanTell (take (length t' - k * 6) t') (take (k * width) l')
      can_tell = rw (last_stands, log_stands) (
          record {
            threes = omega (arith, flat_length w.last);
            whole = omega (arith, logged_numbers);
            table_fits = let h = s.most in omega (arith, left_numbers);
            log_fits = omega (arith, logged_numbers, log_room);
          }
          )

      pub run_put : {before after : ℤ} {text text' : List ℕ} {r : Result ℕ Refusal} → before ≡ figure (sixfold xs (rows t)) → after ≡ figure (sixfold xs (rows (take (length t' - k * 6) t'))) →
          Put (run_text (take (length t' - k * 6) t') (take (k * width) l') before after) text r text' → RunPut xs t text r text'
      run_put {before} {after} {text} {text'} {r} eb ea p = record {
        txt = ok_text xs (rows t) w.log w.last;
        tells = record { log = w.log; last = w.last; run = w.run; text = refl };
        put = subst (λ x. Put x text r text') told p;
      }
        where
          told : run_text (take (length t' - k * 6) t') (take (k * width) l') before after ≡ ok_text xs (rows t) w.log w.last
          told =
              let f = ea ∙ ap (λ l. figure (sixfold xs (rows l))) last_stands ∙ ap (λ T. figure (sixfold xs T)) (rows_flat w.last) in
              (λ i. run_text (last_stands i) (log_stands i) (eb i) (f i)) ∙ run_told xs (rows t) w.log w.last
