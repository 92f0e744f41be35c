-- Request 1 of document 02: "Sites want logs they can mail." What is promised of log sheets, and demands 2 and 3 of a log that was written as a sheet
-- and read again.
use Rattle.std.specs.Prelude.{◌≡◌, List, [], ◌∷◌, ◌++◌, ℕ, ◌-◌, ◌*◌, ◌≤◌, ◌<◌, ℤ, pos, length, take, drop, Result, Some}
use Rattle.surface.specs.Rows.{Row, rows}
use Rattle.surface.specs.Record.{Record}
use Rattle.refusal.specs.declared.Refusal.{Refusal}
use Rattle.refusal.specs.Told as answers
use Rattle.faults.specs.Counts.{corners}
use Rattle.run.specs.Run.{Taken}
use Rattle.record.specs.Layout.{room_for, count, first_records, records}
use Rattle.record.specs.Front.{zeroed}
use Rattle.length.specs.declared.Order.{Order}
use Rattle.length.specs.declared.Order.TheVariants.{Limit}
use Rattle.length.specs.declared.Length.{Length}
use Rattle.length.specs.Limit.{limit_of}
use Rattle.least.specs.Limited.{Allowed}
use Rattle.thin.specs.Order.{asked}
use Rattle.thin.specs.Run.{RunOf}
use Rattle.regrow.specs.declared.Halt.{Halt}
use Rattle.regrow.specs.Answer as regrowths
use Rattle.regrow.specs.Outcome.{GrownAs}
use Rattle.replay.specs.Outcome.{ReplayedAs}
use Rattle.shift.specs.declared.Shifted.{Shifted}
use Rattle.shift.specs.Answer as shifts
use Rattle.shift.specs.Report.{ShiftReport, Bounded}
use Rattle.tell.specs.Answer as texts
use Rattle.logform.specs.LogSheet.{most_log_bytes}
use Rattle.logsheet.specs.declared.LogCounts.{LogCounts}
use Rattle.logsheet.specs.Answer as logs
use Rattle.logsheet.specs.Outcome.{ReadLogSheet, WroteLogSheet}
use Rattle.heading.specs.declared.Heading.{Heading}
use Rattle.logrecords.specs.Answer.{told_opened}
use Rattle.logrecords.specs.Outcome.{OpenedLog}
use Rattle.logrecords.specs.Walk.{Walked, BreaksAfter, Broken}
use Rattle.logreader.specs.declared.Reader.{Reader}
use Rattle.logreader.specs.Outcome.{EachRecord}
use Rattle.logreader.specs.Walk.{AskedOn, BrokenOn}
use Rattle.promises.specs.Thinning.{DoneWith}

-- a log was written as a sheet for n corners and m rows, j bytes; these were read, and tell counts and records; log' is what then stands in the room
pub record Mailed (n m : ℕ) (log log' : List ℕ) : Type 0 where
  pub text : List ℕ
  pub text' : List ℕ
  pub bytes : ℕ
  pub written : Result ℕ Refusal
  pub writes : texts.told written ≡ answers.done (pos bytes ∷ [])
  pub wrote : WroteLogSheet n m log text text' written
  pub room : List ℕ
  pub room' : List ℕ
  pub n' : ℕ
  pub m' : ℕ
  pub records : ℕ
  pub answer : Result LogCounts Refusal
  pub tells : logs.told answer ≡ answers.done (pos n' ∷ pos m' ∷ pos records ∷ [])
  pub read : ReadLogSheet (take bytes text') room room' answer
  pub log_is : log' ≡ take (room_for records) room'

pub record LogSheets : Type 0 where
  -- "Reading what was written gives the same log", whatever it is: it reads wherever its numbers fit, and tells the same counts
  pub reads_back : {n m j : ℕ} {log text text' : List ℕ} {a : Result ℕ Refusal} → WroteLogSheet n m log text text' a → texts.told a ≡ answers.done (pos j ∷ []) →
      {room room' : List ℕ} {z : Result LogCounts Refusal} → length log ≤ length room → ReadLogSheet (take j text') room room' z →
      (logs.told z ≡ answers.done (pos n ∷ pos m ∷ pos (count log) ∷ [])) × (room' ≡ log ++ drop (length log) room)
  -- so what was mailed is the log that was written
  pub same : {n m : ℕ} {log log' : List ℕ} (w : Mailed n m log log') → (w.n' ≡ n) × (w.m' ≡ m) × (log' ≡ log)
  -- "a sheet that reads at all is the only one for its log and counts", read whole or record by record
  pub only : {n m k : ℕ} {b c room room' space space' : List ℕ} {a z : Result LogCounts Refusal} → ReadLogSheet b room room' a → ReadLogSheet c space space' z →
      logs.told a ≡ answers.done (pos n ∷ pos m ∷ pos k ∷ []) → logs.told z ≡ answers.done (pos n ∷ pos m ∷ pos k ∷ []) → take (room_for k) room' ≡ take (room_for k) space' → b ≡ c
  pub only_each : {n m k : ℕ} {b c room room' space space' : List ℕ} {a z : Result LogCounts Refusal} → EachRecord b room room' a → EachRecord c space space' z →
      logs.told a ≡ answers.done (pos n ∷ pos m ∷ pos k ∷ []) → logs.told z ≡ answers.done (pos n ∷ pos m ∷ pos k ∷ []) → take (room_for k) room' ≡ take (room_for k) space' → b ≡ c
  -- the log of a thinning, or a beginning p of it, can be written where as many bytes are lent as a log sheet may have
  pub writes : (o : Order) {xs : List ℤ} {t l : List ℕ} {k : ℕ} {t' l' : List ℕ} (w : RunOf (asked o) xs t l k t' l') (p q : List Record) → w.log ≡ p ++ q →
      {text text' : List ℕ} {a : Result ℕ Refusal} → most_log_bytes ≤ length text → WroteLogSheet (corners xs) (length (rows t)) (take (room_for (length p)) l') text text' a →
      (j : ℕ) × (texts.told a ≡ answers.done (pos j ∷ []))
  -- and so can the rest of it after p
  pub writes_from : (o : Order) {xs : List ℤ} {t l : List ℕ} {k : ℕ} {t' l' : List ℕ} (w : RunOf (asked o) xs t l k t' l') (p q : List Record) → w.log ≡ p ++ q →
      {text text' : List ℕ} {a : Result ℕ Refusal} → most_log_bytes ≤ length text → WroteLogSheet (corners xs) (length (rows t)) (drop (room_for (length p)) (take (room_for k) l')) text text' a →
      (j : ℕ) × (texts.told a ≡ answers.done (pos j ∷ []))
  -- one by one the records of a sheet are those of the whole reading, and then comes the end
  pub one_by_one : {n m k : ℕ} {b room room' : List ℕ} {a : Result LogCounts Refusal} {c : Result Heading Refusal} → ReadLogSheet b room room' a → logs.told a ≡ answers.done (pos n ∷ pos m ∷ pos k ∷ []) → OpenedLog b c →
      (at : ℕ) × (told_opened c ≡ answers.done (pos n ∷ pos m ∷ pos at ∷ [])) × Walked b at (records (take (room_for k) room'))
  -- those of any sheet that reads record by record too
  pub one_by_one_each : {n m k : ℕ} {b room room' : List ℕ} {a : Result LogCounts Refusal} {c : Result Heading Refusal} → EachRecord b room room' a → logs.told a ≡ answers.done (pos n ∷ pos m ∷ pos k ∷ []) → OpenedLog b c →
      (at : ℕ) × (told_opened c ≡ answers.done (pos n ∷ pos m ∷ pos at ∷ [])) × Walked b at (records (take (room_for k) room'))
  -- and so are those that a reader gives, which keeps the sheet and its own place
  pub by_reader : (r : Reader) {n m k : ℕ} {room room' : List ℕ} {a : Result LogCounts Refusal} {c : Result Heading Refusal} → EachRecord r.bytes.now room room' a → logs.told a ≡ answers.done (pos n ∷ pos m ∷ pos k ∷ []) →
      OpenedLog r.bytes.now c → told_opened c ≡ answers.done (pos n ∷ pos m ∷ pos r.at ∷ []) → AskedOn r (records (take (room_for k) room'))
  -- where the whole reading reads, reading record by record answers the same and leaves the same
  pub each : {b room room₁ room₂ : List ℕ} {n m k : ℕ} {a z : Result LogCounts Refusal} → ReadLogSheet b room room₁ a → logs.told a ≡ answers.done (pos n ∷ pos m ∷ pos k ∷ []) → EachRecord b room room₂ z →
      (logs.told z ≡ answers.done (pos n ∷ pos m ∷ pos k ∷ [])) × (room₂ ≡ room₁)
  -- a bad line is told at its record and not before, by whoever asks at places and by a reader
  pub breaks_off : {b : List ℕ} {n m k : ℕ} {log rest : List ℕ} {c : Result Heading Refusal} {at : ℕ} → BreaksAfter b n m k log rest → OpenedLog b c → told_opened c ≡ answers.done (pos n ∷ pos m ∷ pos at ∷ []) →
      Broken b at (first_records k log)
  pub reader_breaks_off : (r : Reader) {n m k : ℕ} {log rest : List ℕ} {c : Result Heading Refusal} → BreaksAfter r.bytes.now n m k log rest → OpenedLog r.bytes.now c →
      told_opened c ≡ answers.done (pos n ∷ pos m ∷ pos r.at ∷ []) → BrokenOn r (first_records k log)
  -- "Demands 2 and 3 read the log as before": growing back a mailed log restores the first table, number for number
  pub restores : (o : Order) {xs : List ℤ} {t l : List ℕ} {k : ℕ} {t' l' : List ℕ} → DoneWith o xs t l k t' l' → {n m : ℕ} {log : List ℕ} → Mailed n m (take (room_for k) l') log → {a : Result ℕ Halt} {r : List ℕ} →
      GrownAs (corners xs) (length (rows t) - 2 * k) t' log a r → (regrowths.told a ≡ answers.done (pos k ∷ [])) × (r ≡ t)
  -- and from record i on, the table before record i; p are the first i records
  pub restores_from : (o : Order) {xs : List ℤ} {t l : List ℕ} {k : ℕ} {t' l' : List ℕ} (w : RunOf (asked o) xs t l k t' l') (p q : List Record) → w.log ≡ p ++ q →
      {T₁ : List Row} → Taken (Allowed w.b xs) (rows t) p T₁ → {n m : ℕ} {log : List ℕ} → Mailed n m (drop (room_for (length p)) (take (room_for k) l')) log → {a : Result ℕ Halt} {r : List ℕ} →
      GrownAs (corners xs) (length (rows t) - 2 * k) t' log a r → (regrowths.told a ≡ answers.done (pos (length q) ∷ [])) × (r ≡ zeroed T₁ t)
  -- replaying it from the first table does every record, and leaves what thinning left
  pub replays : (o : Order) {xs : List ℤ} {t l : List ℕ} {k : ℕ} {t' l' : List ℕ} → DoneWith o xs t l k t' l' → {n m : ℕ} {log : List ℕ} → Mailed n m (take (room_for k) l') log → {a : Result ℕ Halt} {r : List ℕ} →
      ReplayedAs (corners xs) t log a r → (regrowths.told a ≡ answers.done (pos k ∷ [])) × (r ≡ t')
  -- and under an order whose limit reads as L cm every first corner lies within k x L of its stand-in, by the mailed log or a mailed beginning of it
  pub shifts_within : (d : Length) {L : ℕ} → limit_of d ≡ Some L → {xs : List ℤ} {t l : List ℕ} {k : ℕ} {t' l' : List ℕ} (w : RunOf (asked (Limit d)) xs t l k t' l') (p q : List Record) → w.log ≡ p ++ q →
      {n m : ℕ} {log : List ℕ} → Mailed n m (take (room_for (length p)) l') log → (v : ℕ) → v < corners xs → (a : Result Shifted Refusal) → ShiftReport xs log v (shifts.told a) → Bounded L a
