-- Request 3 of document 02: "The lamp went out." What is promised of recovery, over the relations of thinning, of writing a log sheet and of recovery.
use Rattle.std.specs.Prelude.{◌≡◌, List, [], ◌∷◌, ◌++◌, ℕ, suc, ◌-◌, ◌*◌, ◌≤◌, ◌<◌, ℤ, pos, ◌-ℤ◌, length, take, drop, Result, Ok, Some}
use Rattle.surface.specs.Rows.{Row, rows, flat}
use Rattle.surface.specs.Record.{Record, Replayed}
use Rattle.corners.specs.Skin.{Skin}
use Rattle.refusal.specs.declared.Refusal.{Refusal}
use Rattle.refusal.specs.Told as answers
use Rattle.refusal.specs.First.{First}
use Rattle.faults.specs.Counts.{corners}
use Rattle.run.specs.Run.{Taken}
use Rattle.figure.specs.Sum.{sixfold}
use Rattle.record.specs.Layout.{room_for, records}
use Rattle.record.specs.Front.{zeroed}
use Rattle.length.specs.declared.Order.{Order}
use Rattle.length.specs.declared.Order.TheVariants.{Limit}
use Rattle.length.specs.declared.Length.{Length}
use Rattle.length.specs.Limit.{limit_of}
use Rattle.least.specs.Limited.{Allowed}
use Rattle.thin.specs.Order.{Asked, asked}
use Rattle.thin.specs.Thin.{thin_refusals}
use Rattle.thin.specs.Run.{RunOf, KeptAfter}
use Rattle.regrow.specs.declared.Halt.{Halt}
use Rattle.regrow.specs.Answer as regrowths
use Rattle.regrow.specs.Outcome.{GrownAs}
use Rattle.replay.specs.Outcome.{ReplayedAs}
use Rattle.volume.specs.Answer as volumes
use Rattle.volume.specs.Report.{VolumeReport, ChangeReport, Near}
use Rattle.shift.specs.declared.Shifted.{Shifted}
use Rattle.shift.specs.Answer as shifts
use Rattle.shift.specs.Report.{ShiftReport, Bounded}
use Rattle.tell.specs.Answer as texts
use Rattle.logform.specs.LogSheet.{most_log_bytes}
use Rattle.logsheet.specs.Outcome.{WroteLogSheet}
use Rattle.logcut.specs.Cut.{newlines}
use Rattle.recover.specs.Answer as recoveries
use Rattle.recover.specs.Outcome.{RecoveredBy}
use Rattle.recover.specs.Run.{RecoveryOf, StoppedOf}
use Rattle.promises.specs.Thinning.{DoneWith}

-- where recovery under an order is done, and tells 0, k records kept and j in all
pub record RecoveredWith (o : Order) (xs : List ℤ) (t l b : List ℕ) (k j : ℕ) (t' l' : List ℕ) : Type 0 where
  pub answer : Result (ℕ × ℕ) Halt
  pub tells : recoveries.told answer ≡ answers.done (pos k ∷ pos j ∷ [])
  pub recovered : RecoveredBy o xs t l b answer t' l'

-- where it tells 13 and k records done
pub record StoppedWith (o : Order) (xs : List ℤ) (t l b : List ℕ) (k : ℕ) (t' l' : List ℕ) : Type 0 where
  pub answer : Result (ℕ × ℕ) Halt
  pub tells : recoveries.told answer ≡ recoveries.fails_after k
  pub recovered : RecoveredBy o xs t l b answer t' l'

-- a log was written as the sheet of a skin, and the lamp went out: of its bytes as many as b has survived, whichever number that is
pub record CutShort (xs : List ℤ) (t log b : List ℕ) : Type 0 where
  pub text : List ℕ
  pub text' : List ℕ
  pub bytes : ℕ
  pub written : Result ℕ Refusal
  pub writes : texts.told written ≡ answers.done (pos bytes ∷ [])
  pub wrote : WroteLogSheet (corners xs) (length (rows t)) log text text' written
  pub survived : ℕ
  pub is : b ≡ take survived (take bytes text')

-- the first i steps of a run lead to a stage
pub record AfterSteps {d : Asked} {xs : List ℤ} {t l : List ℕ} {k : ℕ} {t' l' : List ℕ} (u : RunOf d xs t l k t' l') (i : ℕ) (front : List Record) (T : List Row) : Type 0 where
  pub rest : List Record
  pub parts : u.log ≡ front ++ rest
  pub many : length front ≡ i
  pub taken : Taken (Allowed u.b xs) (rows t) front T

pub record Recovery : Type 0 where
  -- done, it names the records kept, the stage handed over and the run that goes on from it: each step added is the least edge that meets the link condition
  -- and the limit of the order lent, and it ends only where no such edge is left
  pub recovers : (o : Order) {xs : List ℤ} {t l b : List ℕ} {k j : ℕ} {t' l' : List ℕ} → RecoveredWith o xs t l b k j t' l' → RecoveryOf (asked o) xs t l b k j t' l'
  -- on 13 it names the stage reached, and the record that does not replay there
  pub stops : (o : Order) {xs : List ℤ} {t l b : List ℕ} {k : ℕ} {t' l' : List ℕ} → StoppedWith o xs t l b k t' l' → StoppedOf xs t l b k t' l'
  -- "replay, and hand over the stage": replaying the records kept from the first table gives just the stage handed over
  pub hands_over : (o : Order) {xs : List ℤ} {t l b : List ℕ} {k j : ℕ} {t' l' : List ℕ} (w : RecoveryOf (asked o) xs t l b k j t' l') → {a : Result ℕ Halt} {r : List ℕ} →
      ReplayedAs (corners xs) t w.kept a r → (regrowths.told a ≡ answers.done (pos k ∷ [])) × (r ≡ zeroed w.handed t)
  -- and on 13 the records in the log give just what stands in the table
  pub stops_there : (o : Order) {xs : List ℤ} {t l b : List ℕ} {k : ℕ} {t' l' : List ℕ} → StoppedWith o xs t l b k t' l' → {a : Result ℕ Halt} {r : List ℕ} →
      ReplayedAs (corners xs) t (take (room_for k) l') a r → (regrowths.told a ≡ answers.done (pos k ∷ [])) × (r ≡ t')
  -- done, it kept as many records as newlines survived, less one for the first line
  pub counts_lines : (o : Order) {xs : List ℤ} {t l b : List ℕ} {k j : ℕ} {t' l' : List ℕ} → RecoveredWith o xs t l b k j t' l' → newlines b ≡ suc k
  -- "A cut inside the first line": no newline survived; where order, skin and room pass, it is 12
  pub first_line_cut : (o : Order) {xs : List ℤ} {t l b : List ℕ} {a : Result (ℕ × ℕ) Halt} {t' l' : List ℕ} → newlines b ≡ 0 → First (thin_refusals (asked o) xs t (length l)) (Ok tt) →
      RecoveredBy o xs t l b a t' l' → recoveries.told a ≡ answers.refused_as 12
  -- a log that leads on from the first table, whoever wrote it, cut after any byte past its first line: where order, skin and room pass, recovery is done,
  -- with as many records kept as whole `K` lines survived
  pub takes_up : {xs : List ℤ} {t log b : List ℕ} → CutShort xs t log b → {T : List Row} → Replayed (rows t) (records log) T → {i : ℕ} → newlines b ≡ suc i →
      (o : Order) {l t' l' : List ℕ} {a : Result (ℕ × ℕ) Halt} → First (thin_refusals (asked o) xs t (length l)) (Ok tt) → RecoveredBy o xs t l b a t' l' →
      (j : ℕ) × (recoveries.told a ≡ answers.done (pos i ∷ pos j ∷ []))
  -- these are its first ones, and the stage handed over is the one that they lead to
  pub first_ones : {xs : List ℤ} {t log b : List ℕ} → CutShort xs t log b → {T : List Row} → Replayed (rows t) (records log) T → {i : ℕ} → newlines b ≡ suc i →
      (o : Order) {l : List ℕ} {k j : ℕ} {t' l' : List ℕ} (w : RecoveryOf (asked o) xs t l b k j t' l') → (records w.kept ≡ take i (records log)) × Replayed (rows t) (take i (records log)) w.handed
  -- so of a log that thinning wrote under any order
  pub honest : (o : Order) {xs : List ℤ} {t r : List ℕ} {n : ℕ} {t₁ r₁ : List ℕ} → RunOf (asked o) xs t r n t₁ r₁ → {b : List ℕ} → CutShort xs t (take (room_for n) r₁) b → {i : ℕ} → newlines b ≡ suc i →
      (o₂ : Order) {l t' l' : List ℕ} {a : Result (ℕ × ℕ) Halt} → First (thin_refusals (asked o₂) xs t (length l)) (Ok tt) → RecoveredBy o₂ xs t l b a t' l' →
      (j : ℕ) × (recoveries.told a ≡ answers.done (pos i ∷ pos j ∷ []))
  -- "the stage is exactly the one after as many steps as whole `K` lines survived"
  pub survives : (o : Order) {xs : List ℤ} {t r : List ℕ} {n : ℕ} {t₁ r₁ : List ℕ} (u : RunOf (asked o) xs t r n t₁ r₁) → {b : List ℕ} → CutShort xs t (take (room_for n) r₁) b → {i : ℕ} → newlines b ≡ suc i →
      (o₂ : Order) {l : List ℕ} {k j : ℕ} {t' l' : List ℕ} (w : RecoveryOf (asked o₂) xs t l b k j t' l') → AfterSteps u i (records w.kept) w.handed
  -- "if that order wrote the log, it ends with the table and log of an unbroken run": as many records, the same table, and the same log in the same room
  pub same_order : (o : Order) {xs : List ℤ} {t l : List ℕ} {n : ℕ} {t₁ l₁ : List ℕ} → DoneWith o xs t l n t₁ l₁ → {b : List ℕ} → CutShort xs t (take (room_for n) l₁) b →
      {k j : ℕ} {t' l' : List ℕ} → RecoveredWith o xs t l b k j t' l' → (j ≡ n) × (t' ≡ t₁) × (l' ≡ l₁)
  -- in another room, in front of it
  pub any_room : (o : Order) {xs : List ℤ} {t r : List ℕ} {n : ℕ} {t₁ r₁ : List ℕ} → DoneWith o xs t r n t₁ r₁ → {b : List ℕ} → CutShort xs t (take (room_for n) r₁) b →
      {l : List ℕ} {k j : ℕ} {t' l' : List ℕ} → RecoveredWith o xs t l b k j t' l' → (j ≡ n) × (t' ≡ t₁) × (l' ≡ take (room_for n) r₁ ++ drop (room_for n) l)
  -- and so does every recovery that is done from records that are the first of that order's own run, whoever wrote them
  pub begun_alike : (o : Order) {xs : List ℤ} {t r : List ℕ} {n : ℕ} {t₁ r₁ : List ℕ} (u : RunOf (asked o) xs t r n t₁ r₁) {l b : List ℕ} {k j : ℕ} {t' l' : List ℕ} (w : RecoveryOf (asked o) xs t l b k j t' l') (rest : List Record) →
      u.log ≡ records w.kept ++ rest → (j ≡ n) × (t' ≡ t₁) × (l' ≡ take (room_for n) r₁ ++ drop (room_for n) l)
  -- after any records of a skin that replay, as those of the log that is left do, done or on 13, and its beginnings, a closed oriented stage stands, of its
  -- Euler number, with two rows and one used corner fewer for each
  pub stages_kept : {n : ℕ} {T : List Row} {xs : List ℤ} → Skin n T xs → {p : List Record} {T₁ : List Row} → Replayed T p T₁ → KeptAfter n T p T₁
  -- after each beginning p of the records added a closed oriented stage stands, of the first table's Euler number, with two rows and one used corner fewer for
  -- each record, whoever wrote it
  pub keeps : (o : Order) {xs : List ℤ} {t l b : List ℕ} {k j : ℕ} {t' l' : List ℕ} (w : RecoveryOf (asked o) xs t l b k j t' l') (p q : List Record) → w.added ≡ p ++ q →
      (T₁ : List Row) × Taken (Allowed w.bound xs) w.handed p T₁ × KeptAfter (corners xs) (rows t) (records w.kept ++ p) T₁
  -- "demand 3's shift bound ... only for the steps that recovery adds, with stand-ins and counts started afresh at the stage handed over": by the added part of
  -- the log, or a beginning of it, every corner lies within k x L of its stand-in
  pub shifts_within : (d : Length) {L : ℕ} → limit_of d ≡ Some L → {xs : List ℤ} {t l b : List ℕ} {k j : ℕ} {t' l' : List ℕ} (w : RecoveryOf (asked (Limit d)) xs t l b k j t' l') (p q : List Record) → w.added ≡ p ++ q →
      (v : ℕ) → v < corners xs → (a : Result Shifted Refusal) → ShiftReport xs (take (room_for (length p)) (drop (room_for k) l')) v (shifts.told a) → Bounded L a
  -- the volume of each stage that records of a skin lead to is within half a cubic metre of exact, and each change too, whoever wrote them
  pub volumes_near : {n : ℕ} {T : List Row} {xs : List ℤ} → Skin n T xs → {p : List Record} {T₁ : List Row} → Replayed T p T₁ →
      (a : Result ℤ Refusal) → VolumeReport xs (flat T₁) (volumes.told a) → Near (sixfold xs T₁) a
  pub changes_near : {n : ℕ} {T : List Row} {xs : List ℤ} → Skin n T xs → {p q : List Record} {T₁ T₂ : List Row} → Replayed T p T₁ → Replayed T q T₂ →
      (a : Result ℤ Refusal) → ChangeReport xs (flat T₁) (flat T₂) (volumes.told a) → Near (sixfold xs T₂ -ℤ sixfold xs T₁) a
  -- growing back the whole log that recovery leaves restores the first table, number for number, whoever wrote its beginning
  pub restores : (o : Order) {xs : List ℤ} {t l b : List ℕ} {k j : ℕ} {t' l' : List ℕ} → RecoveredWith o xs t l b k j t' l' → {a : Result ℕ Halt} {r : List ℕ} →
      GrownAs (corners xs) (length (rows t) - 2 * j) t' (take (room_for j) l') a r → (regrowths.told a ≡ answers.done (pos j ∷ [])) × (r ≡ t)
  -- and from record i on, the table before record i; p are the first i of its records, whoever wrote them
  pub restores_from : (o : Order) {xs : List ℤ} {t l b : List ℕ} {k j : ℕ} {t' l' : List ℕ} (w : RecoveryOf (asked o) xs t l b k j t' l') (p q : List Record) → records w.kept ++ w.added ≡ p ++ q →
      {T₁ : List Row} → Replayed (rows t) p T₁ → {a : Result ℕ Halt} {r : List ℕ} →
      GrownAs (corners xs) (length (rows t) - 2 * j) t' (drop (room_for (length p)) (take (room_for j) l')) a r → (regrowths.told a ≡ answers.done (pos (length q) ∷ [])) × (r ≡ zeroed T₁ t)
  -- on 13 the whole log restores the first table too
  pub stops_restores : (o : Order) {xs : List ℤ} {t l b : List ℕ} {k : ℕ} {t' l' : List ℕ} → StoppedWith o xs t l b k t' l' → {a : Result ℕ Halt} {r : List ℕ} →
      GrownAs (corners xs) (length (rows t) - 2 * k) t' (take (room_for k) l') a r → (regrowths.told a ≡ answers.done (pos k ∷ [])) × (r ≡ t)
  -- replaying it from the first table does every record, and leaves what recovery left
  pub replays : (o : Order) {xs : List ℤ} {t l b : List ℕ} {k j : ℕ} {t' l' : List ℕ} → RecoveredWith o xs t l b k j t' l' → {a : Result ℕ Halt} {r : List ℕ} →
      ReplayedAs (corners xs) t (take (room_for j) l') a r → (regrowths.told a ≡ answers.done (pos j ∷ [])) × (r ≡ t')
  -- and it can be written as a log sheet again, where as many bytes are lent as one may have
  pub writes : (o : Order) {xs : List ℤ} {t l b : List ℕ} {k j : ℕ} {t' l' : List ℕ} → RecoveredWith o xs t l b k j t' l' → {text text' : List ℕ} {a : Result ℕ Refusal} → most_log_bytes ≤ length text →
      WroteLogSheet (corners xs) (length (rows t)) (take (room_for j) l') text text' a → (i : ℕ) × (texts.told a ≡ answers.done (pos i ∷ []))
