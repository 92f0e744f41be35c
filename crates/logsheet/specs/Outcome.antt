-- Reading and writing a log sheet: the refusals in 02's order, and the whole outcome of each.
-- "Bad form is 12; counts outside limits, a log of more than corners - 4 records, or a number over six digits to be written is 2; short room is 3; tested in that order."
use Rattle.std.specs.Prelude.{◌≡◌, List, [], ◌∷◌, ◌++◌, map, ℕ, ◌<◌, pos, length, drop, Result, Ok, Err}
use Rattle.refusal.specs.First.{Refusals, ◌when◌, First}
use Rattle.refusal.specs.declared.Refusal.{Refusal}
use Rattle.refusal.specs.declared.Refusal.TheVariants.{CountsOutside, RoomShort, SheetForm}
use Rattle.record.specs.Layout.{count, WholeRecords}
use Rattle.lines.specs.Lines.{FewDigits}
use Rattle.heading.specs.Heading.{most_digits}
use Rattle.logform.specs.LogSheet.{most_log_bytes, log_text, LogSheetOf, NoLogSheet, CountsIn}
use Rattle.logsheet.specs.declared.LogCounts.{LogCounts}

-- ---- reading

pub record CountsOut (b : List ℕ) : Type 0 where
  pub n : ℕ
  pub m : ℕ
  pub log : List ℕ
  pub sheet : LogSheetOf b n m log
  pub out : ¬ CountsIn n m (count log)

-- its numbers do not fit a lent room of so many
pub record NoRoom (b : List ℕ) (room : ℕ) : Type 0 where
  pub n : ℕ
  pub m : ℕ
  pub log : List ℕ
  pub sheet : LogSheetOf b n m log
  pub short : room < length log

unfoldable pub read_refusals : List ℕ → ℕ → Refusals
read_refusals b room =
    (SheetForm when (most_log_bytes < length b))
    ∷ (SheetForm when NoLogSheet b)
    ∷ (CountsOutside when CountsOut b)
    ∷ (RoomShort when NoRoom b room)
    ∷ []

-- reading a log sheet b with the lent room leaves room', and answers a
pub data ReadLogSheet (b room room' : List ℕ) (a : Result LogCounts Refusal) : Type 0 where
  -- refused: nothing is written
  refused : {r : Refusal} → First (read_refusals b (length room)) (Err r) → a ≡ Err r → room' ≡ room → ReadLogSheet b room room' a
  -- done: the log in front of its room, the rest as it was
  read : {n m : ℕ} {log : List ℕ} → First (read_refusals b (length room)) (Ok tt) → LogSheetOf b n m log → a ≡ Ok (record { corners = n; rows = m; records = count log }) → room' ≡ log ++ drop (length log) room → ReadLogSheet b room room' a

-- ---- writing

-- what can be written for n corners and m rows
pub record Writable (n m : ℕ) (log : List ℕ) : Type 0 where
  pub whole : WholeRecords log
  pub counts : CountsIn n m (count log)
  pub short : FewDigits most_digits (map pos log)

unfoldable pub write_refusals : ℕ → ℕ → List ℕ → ℕ → Refusals
write_refusals n m log room =
    (CountsOutside when (¬ Writable n m log))
    ∷ (RoomShort when (room < length (log_text n m log)))
    ∷ []

-- writing the log sheet of n corners, m rows and a log into the lent text leaves text', and answers a
pub data WroteLogSheet (n m : ℕ) (log text text' : List ℕ) (a : Result ℕ Refusal) : Type 0 where
  unwritten : {r : Refusal} → First (write_refusals n m log (length text)) (Err r) → a ≡ Err r → text' ≡ text → WroteLogSheet n m log text text' a
  wrote : First (write_refusals n m log (length text)) (Ok tt) → Writable n m log → a ≡ Ok (length (log_text n m log)) → text' ≡ log_text n m log ++ drop (length (log_text n m log)) text → WroteLogSheet n m log text text' a
