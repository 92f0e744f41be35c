-- Writing a log sheet: its length, and that its parts one after the other are its text.
use mathlib.Core.Path.{◌≡◌, refl, sym, ◌∙◌, ap, subst}
use mathlib.Core.List.{List, [], ◌∷◌, append-nil, map}
use Prim.Native.Nat.{ℕ, ◌+◌, ◌*◌, ◌≤◌, ◌<◌}
use native.Mathlib.Omega.{arith}
use lib.IntN.{ℤ, pos}
use lib.ListN.{length, length-append}
use mir.Syntax.{w64}
use mir.Val.{SFits, to_z}
use mir.ValLaws.{to_z-of_z}
use Rattle.std.specs.Prelude.{Ok, Err}
use Rattle.refusal.specs.declared.Refusal.TheVariants.{CountsOutside, RoomShort}
use Rattle.refusal.proofs.Laws.{verdicts, given_first, passes_none, none_yet, ◌nor◌}
use Rattle.record.specs.Layout.{width, count}
use Rattle.text.specs.InnerReading.{Written}
use Rattle.lines.specs.Lines.{fields, line}
use Rattle.lines.specs.Kinds.{K, record_lines}
use Rattle.lines.proofs.Turns.{in_front}
use Rattle.writing.proofs.Writing.{Onward, onward_start, onward, onward_end, onward_fits, onward_front}
use Rattle.logform.specs.LogSheet.{LOG, log_text}
use Rattle.lines.proofs.Lengths.{line_length, plain_length}
use Rattle.logsheet.specs.Outcome.{Writable, write_refusals, WroteLogSheet, unwritten, wrote}

pub not_writable : {n m : ℕ} {log text : List ℕ} → (¬ Writable n m log) → WroteLogSheet n m log text text (Err CountsOutside)
unfolding write_refusals
not_writable h = unwritten (given_first verdicts none_yet h) refl refl

module _ {n m : ℕ} {log : List ℕ} (w : Writable n m log) where
  abbrev k : ℕ
  k = count log

  abbrev counts : List ℤ
  counts = pos n ∷ pos m ∷ []

  -- the counts as the machine has them
  abbrev pub machine_counts : List ℤ
  machine_counts = to_z w64 n ∷ to_z w64 m ∷ []

  pub corners_fit_lem : SFits w64 (pos n)
  corners_fit_lem = let h = w.counts.many in record { sfits = omega arith }

  pub rows_fit : SFits w64 (pos m)
  rows_fit = let h = w.counts.most in record { sfits = omega arith }

  counts_are : machine_counts ≡ counts
  counts_are = λ i. to_z-of_z w64 (pos n) corners_fit_lem i ∷ to_z-of_z w64 (pos m) rows_fit i ∷ []

  -- what is measured is the length of the text
  module _ {a b : ℕ} (first : a ≡ length (fields machine_counts)) (records : b ≡ length (fields (map pos log))) where
    measured : length (log_text n m log) ≡ 4 + 2 * k + (a + b)
    measured =
        let e = ap (λ l. length (fields l)) counts_are in
        let g = w.whole in
        omega (arith, length-append (line LOG counts) (record_lines k log), line_length LOG counts, plain_length K width k log (omega arith))

    pub too_long : (text : List ℕ) → length text < 4 + 2 * k + (a + b) → WroteLogSheet n m log text text (Err RoomShort)
    unfolding write_refusals
    too_long text h = unwritten (given_first verdicts ((λ none. none w) nor none_yet) (omega (arith, measured))) refl refl

    pub room_enough : {size : ℕ} → 4 + 2 * k + (a + b) ≤ size → length (log_text n m log) ≤ size
    room_enough h = omega (arith, measured)

  -- the first line and the records written one after the other
  module _ (text : List ℕ) (room : length (log_text n m log) ≤ length text) where
    open_fits : 0 + length (log_text n m log) ≤ length text
    open_fits = omega arith

    pub first_fits : 0 + length (line LOG machine_counts) ≤ length text
    first_fits = let e = ap (λ l. length (line LOG l)) counts_are in omega (arith, onward_front (line LOG counts) (record_lines k log) (onward_start text 0 (log_text n m log)) open_fits)

    module _ {r : ℕ} {text₁ : List ℕ} (p : Written text 0 (line LOG machine_counts) r text₁) where
      after_first : Onward text 0 (log_text n m log) text₁ r (record_lines k log)
      after_first = onward _ (line LOG counts) (record_lines k log) refl (onward_start text 0 (log_text n m log)) (subst (λ zs. Written text 0 (line LOG zs) r text₁) counts_are p)

      pub records_fit : r + length (record_lines k log) ≤ length text₁
      records_fit = onward_fits (record_lines k log) after_first open_fits

      pub log_written : {q : ℕ} {text₂ : List ℕ} → Written text₁ r (record_lines k log) q text₂ → WroteLogSheet n m log text text₂ (Ok q)
      unfolding write_refusals
      log_written {q} {text₂} v =
          let all : Written text 0 (log_text n m log) q text₂ = onward_end (onward _ (record_lines k log) [] (sym (append-nil (record_lines k log))) after_first v) in
          let a = all.place in
          let e : q ≡ length (log_text n m log) = omega arith in
          wrote ((passes_none verdicts _).1 ((λ none. none w) nor (λ h. omega arith) nor none_yet)) w (ap Ok e) (all.text ∙ in_front text (log_text n m log) room)
