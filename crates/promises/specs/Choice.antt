-- "Nothing left to choose": of each public call, no second outcome satisfies the same words. No call is left out.
use Rattle.wide.specs.declared.Wide.{Wide}
use Rattle.job.specs.declared.JobRefusal.{JobRefusal}
use Rattle.refusal.specs.declared.Refusal.{Refusal}
use Rattle.std.specs.Prelude.{◌≡◌, List, ℕ, ℤ, Result, Option}
use Rattle.std.specs.Prelude.{Option}
use Rattle.std.specs.Borrow.{Bor}
use Rattle.length.specs.declared.Order.{Order}
use Rattle.length.specs.declared.Length.{Length}
use Rattle.length.specs.Limit.{limit_of}
use Rattle.thin.specs.Thin.{Thinned}
use Rattle.regrow.specs.declared.Halt.{Halt}
use Rattle.regrow.specs.Outcome.{GrownAs}
use Rattle.replay.specs.Outcome.{ReplayedAs}
use Rattle.volume.specs.Answer as volumes
use Rattle.volume.specs.Report.{VolumeReport, ChangeReport, ExactReport}
use Rattle.shift.specs.declared.Shifted.{Shifted}
use Rattle.shift.specs.Answer as shifts
use Rattle.shift.specs.Report.{ShiftReport}
use Rattle.link.specs.Chosen.{Chosen}
use Rattle.catchup.specs.CatchUp.{CaughtUp}
use Rattle.sheet.specs.Outcome.{ReadSheet}
use Rattle.ring.specs.Ring as ring
use Rattle.reply.specs.Outcome.{Replied}
use Rattle.logsheet.specs.declared.LogCounts.{LogCounts}
use Rattle.logsheet.specs.Outcome.{ReadLogSheet, WroteLogSheet}
use Rattle.job.specs.Outcome.{JobAnswered}
use Rattle.flipped.specs.declared.FlipHalt.{FlipHalt}
use Rattle.fliplist.specs.Outcome.{FlippedAs}
use Rattle.undoflips.specs.Outcome.{UndoneAs}
use Rattle.heading.specs.declared.Heading.{Heading}
use Rattle.logrecords.specs.declared.Next.{Next}
use Rattle.logrecords.specs.Outcome.{OpenedLog, NextRecord}
use Rattle.logreader.specs.declared.Reader.{Reader}
use Rattle.logreader.specs.declared.Answered.{Answered}
use Rattle.logreader.specs.Outcome.{Asked, AnsweredAt, EachRecord}
use Rattle.recover.specs.Outcome.{RecoveredBy}

-- the calls in the order of their numbers over a pipe, 1 to 20, 24 to 26, then the reader's own functions; each line names the relation that the call's `ensures` states
pub record NothingLeft : Type 0 where
  -- the answer, the table and the log
  pub thin : (o : Order) {xs : List ℤ} {t l : List ℕ} {a b : Result ℕ Refusal} {t₁ t₂ l₁ l₂ : List ℕ} → Thinned o xs t l a t₁ l₁ → Thinned o xs t l b t₂ l₂ → (a ≡ b) × (t₁ ≡ t₂) × (l₁ ≡ l₂)
  -- the answer and the room
  pub grow_back_lem : {n m : ℕ} {room log : List ℕ} {a b : Result ℕ Halt} {r₁ r₂ : List ℕ} → GrownAs n m room log a r₁ → GrownAs n m room log b r₂ → (a ≡ b) × (r₁ ≡ r₂)
  -- the answer and the table
  pub replay : {n : ℕ} {t log : List ℕ} {a b : Result ℕ Halt} {t₁ t₂ : List ℕ} → ReplayedAs n t log a t₁ → ReplayedAs n t log b t₂ → (a ≡ b) × (t₁ ≡ t₂)
  pub volume : {xs : List ℤ} {t : List ℕ} (a b : Result ℤ Refusal) → VolumeReport xs t (volumes.told a) → VolumeReport xs t (volumes.told b) → a ≡ b
  pub change : {xs : List ℤ} {t s : List ℕ} (a b : Result ℤ Refusal) → ChangeReport xs t s (volumes.told a) → ChangeReport xs t s (volumes.told b) → a ≡ b
  pub shift : {xs : List ℤ} {log : List ℕ} {v : ℕ} (a b : Result Shifted Refusal) → ShiftReport xs log v (shifts.told a) → ShiftReport xs log v (shifts.told b) → a ≡ b
  pub limit : (l : Length) {a b : Option ℕ} → a ≡ limit_of l → b ≡ limit_of l → a ≡ b
  -- the caller's own memory
  pub shorter_ring_lem : {first second r s : Bor (List ℕ)} → Chosen first second r → Chosen first second s → r ≡ s
  pub catch_up_lem : {first second r s : Bor (List ℕ)} → CaughtUp first second r → CaughtUp first second s → (r.ref_ptr ≡ s.ref_ptr) × (r.now ≡ s.now)
  -- the answer, the table and the corners
  pub read_sheet_lem : (b troom : List ℕ) (croom : List ℤ) {a₁ a₂ : Result (ℕ × ℕ) Refusal} {t₁ t₂ : List ℕ} {c₁ c₂ : List ℤ} → ReadSheet b troom t₁ croom c₁ a₁ → ReadSheet b troom t₂ croom c₂ a₂ →
      (a₁ ≡ a₂) × (t₁ ≡ t₂) × (c₁ ≡ c₂)
  pub trial_number_lem : (k : ℕ) (a b : Option ℕ) → ring.AnswerAt k a → ring.AnswerAt k b → a ≡ b
  -- the answer and the text
  pub reply : {b text : List ℕ} {a₁ a₂ : Result ℕ Refusal} {text₁ text₂ : List ℕ} → Replied b text a₁ text₁ → Replied b text a₂ text₂ → (a₁ ≡ a₂) × (text₁ ≡ text₂)
  pub write_log : {n m : ℕ} {log text : List ℕ} {a₁ a₂ : Result ℕ Refusal} {text₁ text₂ : List ℕ} → WroteLogSheet n m log text text₁ a₁ → WroteLogSheet n m log text text₂ a₂ → (a₁ ≡ a₂) × (text₁ ≡ text₂)
  -- the answer and the log's room
  pub read_log : {b room : List ℕ} {a₁ a₂ : Result LogCounts Refusal} {room₁ room₂ : List ℕ} → ReadLogSheet b room room₁ a₁ → ReadLogSheet b room room₂ a₂ → (a₁ ≡ a₂) × (room₁ ≡ room₂)
  pub each_record_lem : {b room : List ℕ} {a₁ a₂ : Result LogCounts Refusal} {room₁ room₂ : List ℕ} → EachRecord b room room₁ a₁ → EachRecord b room room₂ a₂ → (a₁ ≡ a₂) × (room₁ ≡ room₂)
  -- the answer, the table and the log
  pub recover : (o : Order) {xs : List ℤ} {t l b : List ℕ} {a₁ a₂ : Result (ℕ × ℕ) Halt} {t₁ t₂ l₁ l₂ : List ℕ} → RecoveredBy o xs t l b a₁ t₁ l₁ → RecoveredBy o xs t l b a₂ t₂ l₂ → (a₁ ≡ a₂) × (t₁ ≡ t₂) × (l₁ ≡ l₂)
  pub job : {b : List ℕ} {a₁ a₂ : Result ℤ JobRefusal} → JobAnswered b a₁ → JobAnswered b a₂ → a₁ ≡ a₂
  -- the answer, the table and the log; the answer and the table
  pub flip_list_lem : {n : ℕ} {t edges l : List ℕ} {a b : Result ℕ FlipHalt} {t₁ t₂ l₁ l₂ : List ℕ} → FlippedAs n t edges l a t₁ l₁ → FlippedAs n t edges l b t₂ l₂ → (a ≡ b) × (t₁ ≡ t₂) × (l₁ ≡ l₂)
  pub undo_flips_lem : {n : ℕ} {t log : List ℕ} {a b : Result ℕ FlipHalt} {t₁ t₂ : List ℕ} → UndoneAs n t log a t₁ → UndoneAs n t log b t₂ → (a ≡ b) × (t₁ ≡ t₂)
  -- by the plain engine: the answer, the table and the log
  pub thin_plain : (o : Order) {xs : List ℤ} {t l : List ℕ} {a b : Result ℕ Refusal} {t₁ t₂ l₁ l₂ : List ℕ} → Thinned o xs t l a t₁ l₁ → Thinned o xs t l b t₂ l₂ → (a ≡ b) × (t₁ ≡ t₂) × (l₁ ≡ l₂)
  pub open_log : {b : List ℕ} {a₁ a₂ : Result Heading Refusal} → OpenedLog b a₁ → OpenedLog b a₂ → a₁ ≡ a₂
  pub next_record_lem : {b : List ℕ} {at : ℕ} {a₁ a₂ : Next} → NextRecord b at a₁ → NextRecord b at a₂ → a₁ ≡ a₂
  pub exact_sum_lem : {xs : List ℤ} {t : List ℕ} (a b : Result Wide Refusal) → ExactReport xs t (volumes.told_exact a) → ExactReport xs t (volumes.told_exact b) → a ≡ b
  -- a reader made of the caller's bytes at a place; then the answer, and the reader after it
  pub reader_at : {bytes : Bor (List ℕ)} {at : ℕ} {r₁ r₂ : Reader} → (r₁.bytes ≡ bytes) × (r₁.at ≡ at) → (r₂.bytes ≡ bytes) × (r₂.at ≡ at) → (r₁.bytes ≡ r₂.bytes) × (r₁.at ≡ r₂.at)
  pub reader : {r r₁ r₂ : Reader} {a₁ a₂ : Next} → Asked r r₁ a₁ → Asked r r₂ a₂ → (a₁ ≡ a₂) × (r₁.bytes ≡ r₂.bytes) × (r₁.at ≡ r₂.at)
  -- the answer of one that is made for it, and the place that it then keeps
  pub ask : {b : List ℕ} {at : ℕ} {a₁ a₂ : Answered} → AnsweredAt b at a₁ → AnsweredAt b at a₂ → (a₁.next ≡ a₂.next) × (a₁.at ≡ a₂.at)
