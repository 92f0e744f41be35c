-- Demand 1: each call answers with a refusal's number exactly when its list says, and what is refused so is unchanged. That a call always ends
-- and stays in what it was lent needs no statement here: none has a `requires`, and a contract holds only of code that does both.
use Rattle.std.specs.Prelude.{◌≡◌, ◌⊎◌, false, List, ◌++◌, ℕ, ◌<◌, ℤ, length, take, drop, Result, Ok, Err}
use Rattle.wide.specs.declared.Wide.{Wide}
use Rattle.follow.specs.Follow.{Followed}
use Rattle.surface.specs.Rows.{Row, rows, flat}
use Rattle.refusal.specs.declared.Refusal.{Refusal}
use Rattle.refusal.specs.First.{Clause, Refusals, First}
use Rattle.refusal.specs.Told.{Told, refused_as, refused, stopped_as}
use Rattle.refusal.specs.Refuses.{RefusesOf, Refuses}
use Rattle.refusal.specs.Lesser.{either}
use Rattle.faults.specs.Counts.{corners}
use Rattle.faults.specs.Order.{refusals_at}
use Rattle.length.specs.declared.Order.{Order}
use Rattle.length.specs.declared.Length.{Length}
use Rattle.length.specs.Answer as limits
use Rattle.length.specs.Limit.{Unfit, typed, limit_of}
use Rattle.thin.specs.Answer as thinnings
use Rattle.thin.specs.Order.{asked}
use Rattle.thin.specs.Thin.{thin_refusals, Thinned}
use Rattle.record.specs.Layout.{room_for}
use Rattle.record.specs.Front.{filled, zeroed}
use Rattle.regrow.specs.declared.Halt.{Halt}
use Rattle.regrow.specs.declared.Halt.TheVariants.{Stopped}
use Rattle.regrow.specs.Answer as regrowths
use Rattle.growable.specs.Refusals.{grow_refusals}
use Rattle.regrow.specs.Outcome.{growing, GrownAs}
use Rattle.replay.specs.Outcome.{replay_refusals, replaying, ReplayedAs}
use Rattle.volume.specs.Answer as volumes
use Rattle.volume.specs.Report.{VolumeReport, ChangeReport, ExactReport}
use Rattle.shift.specs.declared.Shifted.{Shifted}
use Rattle.shift.specs.Answer as shifts
use Rattle.shift.specs.Order.{shift_refusals}
use Rattle.shift.specs.Report.{ShiftReport}
use Rattle.sheet.specs.Answer as sheets
use Rattle.form.specs.Form.{SheetOf, form_refusals}
use Rattle.sheet.specs.Outcome.{skin_refusals, ReadSheet}
use Rattle.tell.specs.Answer as replies
use Rattle.reply.specs.Outcome.{Replied}
use Rattle.logsheet.specs.declared.LogCounts.{LogCounts}
use Rattle.logsheet.specs.Answer as logs
use Rattle.logsheet.specs.Outcome.{read_refusals, ReadLogSheet, write_refusals, WroteLogSheet}
use Rattle.logcut.specs.Cut.{CutOf}
use Rattle.recover.specs.Answer as recoveries
use Rattle.recover.specs.Outcome.{recover_refusals, RecoveredBy}
use Rattle.job.specs.declared.JobRefusal.{JobRefusal}
use Rattle.job.specs.Answer as jobs
use Rattle.job.specs.Outcome.{job_refusals, JobAnswered}
use Rattle.laid.specs.Laid.{in_front}
use Rattle.flipped.specs.declared.FlipRefusal.{FlipRefusal}
use Rattle.flipped.specs.declared.FlipRefusal.TheVariants.{EdgeMissing, EdgeBlocked, UndoFails}
use Rattle.flipped.specs.declared.FlipHalt.{FlipHalt}
use Rattle.flipped.specs.declared.FlipHalt.TheVariants as flipped
use Rattle.flipped.specs.Number.{number}
use Rattle.flipped.specs.Answer as FlipAnswer
use Rattle.fliplog.specs.Layout.{flip_log}
use Rattle.fliplist.specs.Outcome.{flip_refusals, flipping, FlippedAs}
use Rattle.undoflips.specs.Outcome.{undo_refusals, undoing, UndoneAs}
use Rattle.heading.specs.declared.Heading.{Heading}
use Rattle.logrecords.specs.declared.Next.{Next}
use Rattle.logrecords.specs.Answer.{told_opened, told_next}
use Rattle.logrecords.specs.Outcome.{open_refusals, OpenedLog, LineStands, NextRecord}
use Rattle.logreader.specs.declared.Reader.{Reader}
use Rattle.logreader.specs.Outcome.{Asked, each_refusals, EachRecord}

-- the number i and a count are told exactly when none in the list of refusals holds and the items that a call follows stop after so many; what these led to is left
pub record FailsOf {S : Type 0} (i : ℕ) (l : Refusals) (Stops : ℕ → S → Type 0) (Left : S → Type 0) (v : Told) : Type 0 where
  pub when : (k : ℕ) (s : S) → First l (Ok tt) → Stops k s → v ≡ stopped_as i k
  pub only : (k : ℕ) → v ≡ stopped_as i k → First l (Ok tt) × (s : S) × Stops k s × Left s

-- 13 and a number of records; the rows that these led to are left
abbrev pub Fails : Refusals → (ℕ → List Row → Type 0) → (List Row → Type 0) → Told → Type 0
Fails = FailsOf 13

-- `Refuses` of a job, whose refusals are of their own kind
abbrev pub RefusesJob : List (Clause JobRefusal) → Told → Type 0
RefusesJob = RefusesOf {A = Result Unit JobRefusal} (Ok tt) Err jobs.refused

pub record DemandOne : Type 0 where
  pub thin : (o : Order) {xs : List ℤ} {t l : List ℕ} {a : Result ℕ Refusal} {t' l' : List ℕ} → Thinned o xs t l a t' l' → Refuses (thin_refusals (asked o) xs t (length l)) (thinnings.told a)
  pub thin_same : (o : Order) {xs : List ℤ} {t l : List ℕ} {a : Result ℕ Refusal} {t' l' : List ℕ} → Thinned o xs t l a t' l' → (r : Refusal) → thinnings.told a ≡ refused r → (t' ≡ t) × (l' ≡ l)
  -- 13 is told with the records done, and is no refusal of the list
  pub grow_back_lem : {n m : ℕ} {room log : List ℕ} {a : Result ℕ Halt} {room' : List ℕ} → GrownAs n m room log a room' → Refuses (grow_refusals n m room log) (regrowths.told a)
  pub grow_same : {n m : ℕ} {room log : List ℕ} {a : Result ℕ Halt} {room' : List ℕ} → GrownAs n m room log a room' → (r : Refusal) → regrowths.told a ≡ refused r → room' ≡ room
  pub grow_fails : {n m : ℕ} {room log : List ℕ} {a : Result ℕ Halt} {room' : List ℕ} → GrownAs n m room log a room' →
      Fails (grow_refusals n m room log) (λ k T. Followed (growing n m room log) (Err (Stopped k)) T) (λ T. room' ≡ filled T room) (regrowths.told a)
  pub replay : {n : ℕ} {t log : List ℕ} {a : Result ℕ Halt} {t' : List ℕ} → ReplayedAs n t log a t' → Refuses (replay_refusals n t log) (regrowths.told a)
  pub replay_same : {n : ℕ} {t log : List ℕ} {a : Result ℕ Halt} {t' : List ℕ} → ReplayedAs n t log a t' → (r : Refusal) → regrowths.told a ≡ refused r → t' ≡ t
  pub replay_fails : {n : ℕ} {t log : List ℕ} {a : Result ℕ Halt} {t' : List ℕ} → ReplayedAs n t log a t' →
      Fails (replay_refusals n t log) (λ k T. Followed (replaying n t log) (Err (Stopped k)) T) (λ T. t' ≡ zeroed T t) (regrowths.told a)
  pub volume : {xs : List ℤ} {t : List ℕ} (a : Result ℤ Refusal) → VolumeReport xs t (volumes.told a) → Refuses (refusals_at false xs t) (volumes.told a)
  pub change : {xs : List ℤ} {t s : List ℕ} (a : Result ℤ Refusal) → ChangeReport xs t s (volumes.told a) → Refuses (either (refusals_at false xs t) (refusals_at false xs s)) (volumes.told a)
  pub exact_sum_lem : {xs : List ℤ} {t : List ℕ} (a : Result Wide Refusal) → ExactReport xs t (volumes.told_exact a) → Refuses (refusals_at false xs t) (volumes.told_exact a)
  pub shift : {xs : List ℤ} {log : List ℕ} {v : ℕ} (a : Result Shifted Refusal) → ShiftReport xs log v (shifts.told a) → Refuses (shift_refusals xs log v) (shifts.told a)
  pub limit : (l : Length) → (Unfit (typed l) → limits.told (limit_of l) ≡ refused_as 1) × ((r : Refusal) → limits.told (limit_of l) ≡ refused r → Unfit (typed l))
  -- a sheet: for its form, or else for what it holds, and only for one of these
  pub sheet_form : {b troom troom' : List ℕ} {croom croom' : List ℤ} {a : Result (ℕ × ℕ) Refusal} → ReadSheet b troom troom' croom croom' a → (r : Refusal) → First (form_refusals b) (Err r) → sheets.told a ≡ refused r
  pub sheet_skin : {b troom troom' : List ℕ} {croom croom' : List ℤ} {a : Result (ℕ × ℕ) Refusal} → ReadSheet b troom troom' croom croom' a → First (form_refusals b) (Ok tt) →
      {n m : ℕ} {xs : List ℤ} {t : List ℕ} → SheetOf b n m xs t → Refuses (skin_refusals troom croom xs t) (sheets.told a)
  pub sheet_only : {b troom troom' : List ℕ} {croom croom' : List ℤ} {a : Result (ℕ × ℕ) Refusal} → ReadSheet b troom troom' croom croom' a → (r : Refusal) → sheets.told a ≡ refused r →
      First (form_refusals b) (Err r)
      ⊎ (First (form_refusals b) (Ok tt) × (n m : ℕ) × (xs : List ℤ) × (t : List ℕ) × SheetOf b n m xs t × First (skin_refusals troom croom xs t) (Err r))
  pub sheet_same : {b troom troom' : List ℕ} {croom croom' : List ℤ} {a : Result (ℕ × ℕ) Refusal} → ReadSheet b troom troom' croom croom' a → (r : Refusal) → sheets.told a ≡ refused r → (troom' ≡ troom) × (croom' ≡ croom)
  -- the desk's answer: only where its text does not fit
  pub reply : {b text : List ℕ} {a : Result ℕ Refusal} {text' : List ℕ} → (w : Replied b text a text') → (length text < length w.txt → replies.told a ≡ refused_as 3)
      × ((r : Refusal) → replies.told a ≡ refused r → (length text < length w.txt) × (text' ≡ text))
  -- log sheets, written and read
  pub write_log : {n m : ℕ} {log text : List ℕ} {a : Result ℕ Refusal} {text' : List ℕ} → WroteLogSheet n m log text text' a → Refuses (write_refusals n m log (length text)) (replies.told a)
  pub write_log_same : {n m : ℕ} {log text : List ℕ} {a : Result ℕ Refusal} {text' : List ℕ} → WroteLogSheet n m log text text' a → (r : Refusal) → replies.told a ≡ refused r → text' ≡ text
  pub read_log : {b room : List ℕ} {a : Result LogCounts Refusal} {room' : List ℕ} → ReadLogSheet b room room' a → Refuses (read_refusals b (length room)) (logs.told a)
  pub read_log_same : {b room : List ℕ} {a : Result LogCounts Refusal} {room' : List ℕ} → ReadLogSheet b room room' a → (r : Refusal) → logs.told a ≡ refused r → room' ≡ room
  pub each_record_lem : {b room : List ℕ} {a : Result LogCounts Refusal} {room' : List ℕ} → EachRecord b room room' a → Refuses (each_refusals b (length room)) (logs.told a)
  pub each_record_same : {b room : List ℕ} {a : Result LogCounts Refusal} {room' : List ℕ} → EachRecord b room room' a → (r : Refusal) → logs.told a ≡ refused r → room' ≡ room
  -- recovery: 13 is told with the records done, twice, and is no refusal of the list
  pub recover : (o : Order) {xs : List ℤ} {t l b : List ℕ} {a : Result (ℕ × ℕ) Halt} {t' l' : List ℕ} → RecoveredBy o xs t l b a t' l' → Refuses (recover_refusals (asked o) xs t (length l) b) (recoveries.told a)
  pub recover_same : (o : Order) {xs : List ℤ} {t l b : List ℕ} {a : Result (ℕ × ℕ) Halt} {t' l' : List ℕ} → RecoveredBy o xs t l b a t' l' → (r : Refusal) → recoveries.told a ≡ refused r → (t' ≡ t) × (l' ≡ l)
  -- exactly when no refusal of the list holds and the records of the whole lines stop after so many; the stage reached and its records are left
  pub recover_fails : (o : Order) {xs : List ℤ} {t l b : List ℕ} {a : Result (ℕ × ℕ) Halt} {t' l' : List ℕ} → RecoveredBy o xs t l b a t' l' → {log : List ℕ} → CutOf b (corners xs) (length (rows t)) log →
      ((k : ℕ) (T : List Row) → First (recover_refusals (asked o) xs t (length l) b) (Ok tt) → Followed (replaying (corners xs) t log) (Err (Stopped k)) T → recoveries.told a ≡ recoveries.fails_after k)
      × ((k : ℕ) → recoveries.told a ≡ recoveries.fails_after k → First (recover_refusals (asked o) xs t (length l) b) (Ok tt) × (T : List Row) × Followed (replaying (corners xs) t log) (Err (Stopped k)) T
      × (t' ≡ zeroed T t) × (l' ≡ take (room_for k) log ++ drop (room_for k) l))
  pub job : {b : List ℕ} {a : Result ℤ JobRefusal} → JobAnswered b a → RefusesJob (job_refusals b) (jobs.told a)
  -- flipping a list of edges: 30 and 31 are told with the flips done, and are not in the list of refusals
  pub flip_list_lem : {n : ℕ} {t edges l : List ℕ} {a : Result ℕ FlipHalt} {t' l' : List ℕ} → FlippedAs n t edges l a t' l' → Refuses (flip_refusals n t edges l) (FlipAnswer.told a)
  pub flip_same : {n : ℕ} {t edges l : List ℕ} {a : Result ℕ FlipHalt} {t' l' : List ℕ} → FlippedAs n t edges l a t' l' → (r : Refusal) → FlipAnswer.told a ≡ refused r → (t' ≡ t) × (l' ≡ l)
  -- each exactly when none in the list of refusals holds and the list of edges stops by it after so many flips; the rows reached and the records are left
  pub flip_fails : {n : ℕ} {t edges l : List ℕ} {a : Result ℕ FlipHalt} {t' l' : List ℕ} → FlippedAs n t edges l a t' l' → (r : FlipRefusal) →
      FailsOf (number r) (flip_refusals n t edges l) (λ k s. Followed (flipping n t edges l) (Err (flipped.Stopped r k)) s) (λ s. (t' ≡ flat s.table) × (l' ≡ in_front flip_log s.log l)) (FlipAnswer.told a)
  -- and no other number is told with a count
  pub flip_only : {n : ℕ} {t edges l : List ℕ} {a : Result ℕ FlipHalt} {t' l' : List ℕ} → FlippedAs n t edges l a t' l' → (r : FlipRefusal) (k : ℕ) → FlipAnswer.told a ≡ FlipAnswer.stopped r k → (r ≡ EdgeMissing) ⊎ (r ≡ EdgeBlocked)
  -- undoing a flip log: 32 is told with the records undone, and is not in the list of refusals
  pub undo_flips_lem : {n : ℕ} {t log : List ℕ} {a : Result ℕ FlipHalt} {t' : List ℕ} → UndoneAs n t log a t' → Refuses (undo_refusals n t log) (FlipAnswer.told a)
  pub undo_same : {n : ℕ} {t log : List ℕ} {a : Result ℕ FlipHalt} {t' : List ℕ} → UndoneAs n t log a t' → (r : Refusal) → FlipAnswer.told a ≡ refused r → t' ≡ t
  pub undo_fails : {n : ℕ} {t log : List ℕ} {a : Result ℕ FlipHalt} {t' : List ℕ} → UndoneAs n t log a t' →
      FailsOf 32 (undo_refusals n t log) (λ k T. Followed (undoing n t log) (Err (flipped.Stopped UndoFails k)) T) (λ T. t' ≡ flat T) (FlipAnswer.told a)
  pub undo_only : {n : ℕ} {t log : List ℕ} {a : Result ℕ FlipHalt} {t' : List ℕ} → UndoneAs n t log a t' → (r : FlipRefusal) (k : ℕ) → FlipAnswer.told a ≡ FlipAnswer.stopped r k → r ≡ UndoFails
  -- thinning by the plain engine, in the words of the first
  pub thin_plain : (o : Order) {xs : List ℤ} {t l : List ℕ} {a : Result ℕ Refusal} {t' l' : List ℕ} → Thinned o xs t l a t' l' → Refuses (thin_refusals (asked o) xs t (length l)) (thinnings.told a)
  pub thin_plain_same : (o : Order) {xs : List ℤ} {t l : List ℕ} {a : Result ℕ Refusal} {t' l' : List ℕ} → Thinned o xs t l a t' l' → (r : Refusal) → thinnings.told a ≡ refused r → (t' ≡ t) × (l' ≡ l)
  pub open_log : {b : List ℕ} {a : Result Heading Refusal} → OpenedLog b a → Refuses (open_refusals b) (told_opened a)
  -- 12 exactly where a byte follows the place and no record's line stands there; by a reader too, at its own place
  pub next_record_lem : {b : List ℕ} {at : ℕ} {a : Next} → NextRecord b at a → (at < length b → ((ns : List ℕ) → ¬ LineStands b at ns) → told_next a ≡ refused_as 12)
      × ((r : Refusal) → told_next a ≡ refused r → (at < length b) × ((ns : List ℕ) → ¬ LineStands b at ns))
  pub reader : {r r' : Reader} {a : Next} → Asked r r' a → (r.at < length r.bytes.now → ((ns : List ℕ) → ¬ LineStands r.bytes.now r.at ns) → told_next a ≡ refused_as 12)
      × ((q : Refusal) → told_next a ≡ refused q → (r.at < length r.bytes.now) × ((ns : List ℕ) → ¬ LineStands r.bytes.now r.at ns))
