-- A log sheet's form: why each answer of its reader is right, and that a sheet has one log.
use mathlib.Core.Path.{◌≡◌, refl, sym, ◌∙◌, ap, subst}
use mathlib.Core.List.{List, [], ◌∷◌, ◌++◌, append-nil, map}
use Prim.Native.Nat.{ℕ, zero, suc, ◌+◌, ◌-◌, ◌≤◌, ◌<◌}
use native.Mathlib.Omega.{arith}
use lib.IntN.{ℤ, pos}
use lib.ListN.{length, length-map, drop}
use Rattle.record.specs.Layout.{width, count}
use Rattle.lines.specs.Lines.{lines, LineAt}
use Rattle.lines.specs.Kinds.{K, record_lines}
use Rattle.lines.proofs.Cut.{lines_unique, cut_lines}
use Rattle.lines.proofs.Plain.{pos_same}
use Rattle.heading.specs.Heading.{most_digits, first_line_lem, NoFirstLine}
use Rattle.heading.proofs.First.{same_first}
use Rattle.logform.specs.LogSheet.{LOG, most_log_bytes, LogSheetOf}
use Rattle.logform.specs.Inner.{Records, LinesLeft, LogFormRead, BadLogForm, no_sheet}

-- a log sheet has its first line, and its lines of records after it
pub its_line : {b : List ℕ} {n m : ℕ} {log : List ℕ} → LogSheetOf b n m log → LineAt most_digits LOG b (pos n ∷ pos m ∷ []) (record_lines (count log) log)
its_line s = record { bytes = s.text; short = s.counts_short }

pub its_records : {b : List ℕ} {n m : ℕ} {log : List ℕ} → LogSheetOf b n m log → Records (count log) (record_lines (count log) log) log
its_records {log = log} s = let h = s.whole in record { count = omega arith; lines = record { bytes = sym (append-nil (record_lines (count log) log)); short = s.short } }

module _ {b : List ℕ} (size : length b ≤ most_log_bytes) where
  pub no_first : NoFirstLine LOG b → BadLogForm b
  no_first none = no_sheet size (λ n m log s. none n m (record { rest = record_lines (count log) log; line = its_line s }))

  module _ {n m : ℕ} (at : ℕ) (f : LineAt most_digits LOG b (pos n ∷ pos m ∷ []) (drop at b)) where
    pub no_records : ((k : ℕ) (log : List ℕ) → ¬ Records k (drop at b) log) → BadLogForm b
    no_records none = no_sheet size (λ n' m' log s.
        let u = same_first LOG b n m n' m' (drop at b) (record_lines (count log) log) f (its_line s) in
        none (count log) log (rw u.after (its_records s)))

    pub log_form : {k : ℕ} → LinesLeft k (drop at b) → LogFormRead b n m k at
    log_form {k} l =
        let c = l.are.count in
        let e : k ≡ count l.log = omega arith in
        record {
          size = size;
          log = l.log;
          sheet = record {
            text = f.bytes ∙ ap (λ r. first_line_lem LOG n m ++ r) (l.are.lines.bytes ∙ append-nil (lines K width k (map pos l.log)) ∙ ap (λ (j : ℕ). record_lines j l.log) e);
            whole = omega arith;
            counts_short = f.short;
            short = l.are.lines.short;
          };
          records = l.are;
        }

-- ---- one log for its lines, and one text for its log

none_left : (i : ℕ) (zs : List ℤ) → [] ≡ lines K width i zs ++ [] → i ≡ 0
none_left zero zs e = refl
none_left (suc i) zs e = let f = ap length e in absurd (omega arith)

not_fewer : {j k : ℕ} {l log log' : List ℕ} → Records j l log → Records k l log' → ¬ (j < k)
not_fewer {j} {k} {log = log} {log'} r q h =
    let e : k ≡ j + (k - j) = omega arith in
    let v = cut_lines K width j k (k - j) (map pos log) (map pos log') [] [] e (length-map log pos ∙ r.count) (length-map log' pos ∙ q.count) (sym r.lines.bytes ∙ q.lines.bytes) in
    let z = none_left (k - j) v.ts v.after in
    omega arith

pub one_records : {j k : ℕ} {l log log' : List ℕ} → Records j l log → Records k l log' → (j ≡ k) × (log ≡ log')
one_records {j} {k} {log = log} {log'} r q =
    let a = not_fewer r q in
    let b = not_fewer q r in
    let e : j ≡ k = omega arith in
    let c = q.count in
    let u = lines_unique K width j (map pos log) (map pos log') [] [] (length-map log pos ∙ r.count) (length-map log' pos ∙ (omega arith)) (sym r.lines.bytes ∙ q.lines.bytes ∙ ap (λ (i : ℕ). lines K width i (map pos log') ++ []) (sym e)) in
    (e, pos_same log log' u.0)

-- two log sheets of the same bytes
pub record SameLog (n m n' m' : ℕ) (log log' : List ℕ) : Type 0 where
  pub corners : n ≡ n'
  pub rows : m ≡ m'
  pub numbers : log ≡ log'

-- a log sheet has one log, and one pair of counts
pub one_log : {b : List ℕ} {n m n' m' : ℕ} {log log' : List ℕ} → LogSheetOf b n m log → LogSheetOf b n' m' log' → SameLog n m n' m' log log'
one_log {b} {n} {m} {n'} {m'} {log} {log'} s u =
    let f = same_first LOG b n m n' m' (record_lines (count log) log) (record_lines (count log') log') (its_line s) (its_line u) in
    record { corners = f.corners; rows = f.rows; numbers = (one_records (its_records s) (subst (λ l. Records (count log') l log') (sym f.after) (its_records u))).1 }

-- a log sheet is the only one for its log and counts
pub only_log_sheet : {b b' : List ℕ} {n m : ℕ} {log : List ℕ} → LogSheetOf b n m log → LogSheetOf b' n m log → b ≡ b'
only_log_sheet s u = s.text ∙ sym u.text
