-- "Each public call states its entire outcome": of each function that crosses, that it answers as its call does, and that no second outcome
-- satisfies the same words.
use Rattle.wide.specs.declared.Wide.{Wide}
use Rattle.job.specs.declared.JobRefusal.{JobRefusal}
use Rattle.refusal.specs.declared.Refusal.{Refusal}
use Rattle.std.specs.Prelude.{◌≡◌, List, ℕ, ℤ, Float, Result, Option}
use Rattle.std.specs.Prelude.{Option}
use Rattle.std.specs.Borrow.{Bor}
use Rattle.length.specs.Limit.{limit_of}
use Rattle.length.specs.Answer as LengthAnswer
use Rattle.thin.specs.Thin.{Thinned}
use Rattle.thin.specs.Answer as ThinAnswer
use Rattle.regrow.specs.declared.Halt.{Halt}
use Rattle.regrow.specs.Outcome.{GrownAs}
use Rattle.regrow.specs.Answer as RegrowAnswer
use Rattle.replay.specs.Outcome.{ReplayedAs}
use Rattle.volume.specs.Report.{VolumeReport, ChangeReport, ExactReport}
use Rattle.volume.specs.Answer as VolumeAnswer
use Rattle.shift.specs.declared.Shifted.{Shifted}
use Rattle.shift.specs.Report.{ShiftReport}
use Rattle.shift.specs.Answer as ShiftAnswer
use Rattle.sheet.specs.Outcome.{ReadSheet}
use Rattle.sheet.specs.Answer as SheetAnswer
use Rattle.job.specs.Outcome.{JobAnswered}
use Rattle.job.specs.Answer as JobAnswer
use Rattle.flipped.specs.declared.FlipHalt.{FlipHalt}
use Rattle.flipped.specs.Answer as FlipAnswer
use Rattle.fliplist.specs.Outcome.{FlippedAs}
use Rattle.undoflips.specs.Outcome.{UndoneAs}
use Rattle.reply.specs.Outcome.{Replied}
use Rattle.tell.specs.Answer as ReplyAnswer
use Rattle.logsheet.specs.declared.LogCounts.{LogCounts}
use Rattle.logsheet.specs.Outcome.{ReadLogSheet, WroteLogSheet}
use Rattle.logsheet.specs.Answer as LogAnswer
use Rattle.heading.specs.declared.Heading.{Heading}
use Rattle.logrecords.specs.declared.Next.{Next}
use Rattle.logrecords.specs.Outcome.{OpenedLog, NextRecord}
use Rattle.logrecords.specs.Answer.{told_opened, told_next}
use Rattle.ring.specs.Ring.{AnswerAt}
use Rattle.link.specs.Chosen.{Chosen}
use Rattle.catchup.specs.CatchUp.{CaughtUp}
use Rattle.logreader.specs.Outcome.{EachRecord}
use Rattle.recover.specs.Outcome.{RecoveredBy}
use Rattle.recover.specs.Answer as RecoverAnswer
use Rattle.across.specs.declared.Counted.{Counted}
use Rattle.across.specs.declared.Measure.{Measure}
use Rattle.across.specs.declared.Exact.{Exact}
use Rattle.across.specs.declared.StandIn.{StandIn}
use Rattle.across.specs.declared.Centimetres.{Centimetres}
use Rattle.across.specs.declared.Counts.{Counts}
use Rattle.across.specs.declared.Written.{Written}
use Rattle.across.specs.declared.LogRead.{LogRead}
use Rattle.across.specs.declared.Recovery.{Recovery}
use Rattle.across.specs.declared.LogOpened.{LogOpened}
use Rattle.across.specs.declared.Asked.{Asked}
use Rattle.across.specs.declared.Stored.{Stored}
use Rattle.bridge.specs.declared.Part.{Part}
use Rattle.across.specs.Units.{length_of_lem, order_of_lem}
use Rattle.across.specs.Says.{Says}
use Rattle.across.specs.Fields.{of_counted, of_measure, of_exact, of_stand_in, of_centimetres, of_counts, of_written, of_log_read, of_recovery, of_log_opened, of_asked, Stores}
use Rattle.bridge.specs.Calls.{ThinShown, GrowShown, ReplayShown, VolumeShown, ChangeShown, ExactShown, ShiftShown, LimitShown, SheetShown, JobShown, FlipShown, UndoShown, ReplyShown, WriteLogShown, ReadLogShown, EachShown, RecoverShown, OpenShown, NextShown}
use Rattle.bridge.specs.Lent.{TrialShown, Which, RingShown, Places, PartShown}

-- the calls in the order of their numbers over a pipe: 1 to 20, 24 to 26
pub record Crossing : Type 0 where
  -- what is said is what the call answers, and what is left is what the call leaves
  pub thin : (u : ℕ) (v : Float) {xs : List ℤ} {t l : List ℕ} {r : Counted} {t₁ t₂ l₁ l₂ : List ℕ} {a : Result ℕ Refusal} → ThinShown u v xs t l r t₁ l₁ → Thinned (order_of_lem u v) xs t l a t₂ l₂ →
      Says (ThinAnswer.told a) (of_counted r) × (t₁ ≡ t₂) × (l₁ ≡ l₂)
  pub thin_one : (u : ℕ) (v : Float) {xs : List ℤ} {t l : List ℕ} {r q : Counted} {t₁ t₂ l₁ l₂ : List ℕ} → ThinShown u v xs t l r t₁ l₁ → ThinShown u v xs t l q t₂ l₂ → (r ≡ q) × (t₁ ≡ t₂) × (l₁ ≡ l₂)
  pub grow_back_lem : {n m : ℕ} {room log : List ℕ} {r : Counted} {room₁ room₂ : List ℕ} {a : Result ℕ Halt} → GrowShown n m room log r room₁ → GrownAs n m room log a room₂ → Says (RegrowAnswer.told a) (of_counted r) × (room₁ ≡ room₂)
  pub grow_back_one : {n m : ℕ} {room log : List ℕ} {r q : Counted} {room₁ room₂ : List ℕ} → GrowShown n m room log r room₁ → GrowShown n m room log q room₂ → (r ≡ q) × (room₁ ≡ room₂)
  pub replay : {n : ℕ} {t log : List ℕ} {r : Counted} {t₁ t₂ : List ℕ} {a : Result ℕ Halt} → ReplayShown n t log r t₁ → ReplayedAs n t log a t₂ → Says (RegrowAnswer.told a) (of_counted r) × (t₁ ≡ t₂)
  pub replay_one : {n : ℕ} {t log : List ℕ} {r q : Counted} {t₁ t₂ : List ℕ} → ReplayShown n t log r t₁ → ReplayShown n t log q t₂ → (r ≡ q) × (t₁ ≡ t₂)
  pub volume : {xs : List ℤ} {t : List ℕ} {r : Measure} (a : Result ℤ Refusal) → VolumeShown xs t r → VolumeReport xs t (VolumeAnswer.told a) → Says (VolumeAnswer.told a) (of_measure r)
  pub volume_one : {xs : List ℤ} {t : List ℕ} {r q : Measure} → VolumeShown xs t r → VolumeShown xs t q → r ≡ q
  pub change : {xs : List ℤ} {t s : List ℕ} {r : Measure} (a : Result ℤ Refusal) → ChangeShown xs t s r → ChangeReport xs t s (VolumeAnswer.told a) → Says (VolumeAnswer.told a) (of_measure r)
  pub change_one : {xs : List ℤ} {t s : List ℕ} {r q : Measure} → ChangeShown xs t s r → ChangeShown xs t s q → r ≡ q
  pub shift : {xs : List ℤ} {log : List ℕ} {v : ℕ} {r : StandIn} (a : Result Shifted Refusal) → ShiftShown xs log v r → ShiftReport xs log v (ShiftAnswer.told a) → Says (ShiftAnswer.told a) (of_stand_in r)
  pub shift_one : {xs : List ℤ} {log : List ℕ} {v : ℕ} {r q : StandIn} → ShiftShown xs log v r → ShiftShown xs log v q → r ≡ q
  pub limit : (u : ℕ) (v : Float) {r : Centimetres} {a : Option ℕ} → LimitShown u v r → a ≡ limit_of (length_of_lem u v) → Says (LengthAnswer.told a) (of_centimetres r)
  pub limit_one : (u : ℕ) (v : Float) {r q : Centimetres} → LimitShown u v r → LimitShown u v q → r ≡ q
  -- which of the two lent rings, and which part of which log
  pub shorter_ring_lem : {first second ring : Bor (List ℕ)} {r : ℕ} → RingShown first second r → Chosen first second ring → Which first second ring r
  pub shorter_ring_one : {first second : Bor (List ℕ)} {r q : ℕ} → RingShown first second r → RingShown first second q → r ≡ q
  pub catch_up_lem : {first second part : Bor (List ℕ)} {r : Part} → PartShown first second r → CaughtUp first second part → Places first second part r
  pub catch_up_one : {first second : Bor (List ℕ)} {r q : Part} → PartShown first second r → PartShown first second q → r ≡ q
  pub read_sheet_lem : {b t t₁ t₂ : List ℕ} {xs xs₁ xs₂ : List ℤ} {r : Counts} {a : Result (ℕ × ℕ) Refusal} → SheetShown b t t₁ xs xs₁ r → ReadSheet b t t₂ xs xs₂ a → Says (SheetAnswer.told a) (of_counts r) × (t₁ ≡ t₂) × (xs₁ ≡ xs₂)
  pub read_sheet_one : {b t t₁ t₂ : List ℕ} {xs xs₁ xs₂ : List ℤ} {r q : Counts} → SheetShown b t t₁ xs xs₁ r → SheetShown b t t₂ xs xs₂ q → (r ≡ q) × (t₁ ≡ t₂) × (xs₁ ≡ xs₂)
  pub trial_number_lem : {k : ℕ} {r : Stored} (a : Option ℕ) → TrialShown k r → AnswerAt k a → Stores a r
  pub trial_number_one : {k : ℕ} {r q : Stored} → TrialShown k r → TrialShown k q → r ≡ q
  pub reply : {b text : List ℕ} {r : Written} {text₁ text₂ : List ℕ} {a : Result ℕ Refusal} → ReplyShown b text r text₁ → Replied b text a text₂ → Says (ReplyAnswer.told a) (of_written r) × (text₁ ≡ text₂)
  pub reply_one : {b text : List ℕ} {r q : Written} {text₁ text₂ : List ℕ} → ReplyShown b text r text₁ → ReplyShown b text q text₂ → (r ≡ q) × (text₁ ≡ text₂)
  pub write_log : {n m : ℕ} {log text : List ℕ} {r : Written} {text₁ text₂ : List ℕ} {a : Result ℕ Refusal} → WriteLogShown n m log text r text₁ → WroteLogSheet n m log text text₂ a →
      Says (ReplyAnswer.told a) (of_written r) × (text₁ ≡ text₂)
  pub write_log_one : {n m : ℕ} {log text : List ℕ} {r q : Written} {text₁ text₂ : List ℕ} → WriteLogShown n m log text r text₁ → WriteLogShown n m log text q text₂ → (r ≡ q) × (text₁ ≡ text₂)
  pub read_log : {b room room₁ room₂ : List ℕ} {r : LogRead} {a : Result LogCounts Refusal} → ReadLogShown b room room₁ r → ReadLogSheet b room room₂ a → Says (LogAnswer.told a) (of_log_read r) × (room₁ ≡ room₂)
  pub read_log_one : {b room room₁ room₂ : List ℕ} {r q : LogRead} → ReadLogShown b room room₁ r → ReadLogShown b room room₂ q → (r ≡ q) × (room₁ ≡ room₂)
  pub each_record_lem : {b room room₁ room₂ : List ℕ} {r : LogRead} {a : Result LogCounts Refusal} → EachShown b room room₁ r → EachRecord b room room₂ a → Says (LogAnswer.told a) (of_log_read r) × (room₁ ≡ room₂)
  pub each_record_one : {b room room₁ room₂ : List ℕ} {r q : LogRead} → EachShown b room room₁ r → EachShown b room room₂ q → (r ≡ q) × (room₁ ≡ room₂)
  pub recover : (u : ℕ) (v : Float) {xs : List ℤ} {t l b : List ℕ} {r : Recovery} {t₁ t₂ l₁ l₂ : List ℕ} {a : Result (ℕ × ℕ) Halt} → RecoverShown u v xs t l b r t₁ l₁ → RecoveredBy (order_of_lem u v) xs t l b a t₂ l₂ →
      Says (RecoverAnswer.told a) (of_recovery r) × (t₁ ≡ t₂) × (l₁ ≡ l₂)
  pub recover_one : (u : ℕ) (v : Float) {xs : List ℤ} {t l b : List ℕ} {r q : Recovery} {t₁ t₂ l₁ l₂ : List ℕ} → RecoverShown u v xs t l b r t₁ l₁ → RecoverShown u v xs t l b q t₂ l₂ →
      (r ≡ q) × (t₁ ≡ t₂) × (l₁ ≡ l₂)
  pub job : {b : List ℕ} {r : Measure} {a : Result ℤ JobRefusal} → JobShown b r → JobAnswered b a → Says (JobAnswer.told a) (of_measure r)
  pub job_one : {b : List ℕ} {r q : Measure} → JobShown b r → JobShown b q → r ≡ q
  pub flip_list_lem : {n : ℕ} {t edges l : List ℕ} {r : Counted} {t₁ t₂ l₁ l₂ : List ℕ} {a : Result ℕ FlipHalt} → FlipShown n t edges l r t₁ l₁ → FlippedAs n t edges l a t₂ l₂ →
      Says (FlipAnswer.told a) (of_counted r) × (t₁ ≡ t₂) × (l₁ ≡ l₂)
  pub flip_list_one : {n : ℕ} {t edges l : List ℕ} {r q : Counted} {t₁ t₂ l₁ l₂ : List ℕ} → FlipShown n t edges l r t₁ l₁ → FlipShown n t edges l q t₂ l₂ → (r ≡ q) × (t₁ ≡ t₂) × (l₁ ≡ l₂)
  pub undo_flips_lem : {n : ℕ} {t log : List ℕ} {r : Counted} {t₁ t₂ : List ℕ} {a : Result ℕ FlipHalt} → UndoShown n t log r t₁ → UndoneAs n t log a t₂ → Says (FlipAnswer.told a) (of_counted r) × (t₁ ≡ t₂)
  pub undo_flips_one : {n : ℕ} {t log : List ℕ} {r q : Counted} {t₁ t₂ : List ℕ} → UndoShown n t log r t₁ → UndoShown n t log q t₂ → (r ≡ q) × (t₁ ≡ t₂)
  -- by the plain engine, in the words of the first
  pub thin_plain : (u : ℕ) (v : Float) {xs : List ℤ} {t l : List ℕ} {r : Counted} {t₁ t₂ l₁ l₂ : List ℕ} {a : Result ℕ Refusal} → ThinShown u v xs t l r t₁ l₁ → Thinned (order_of_lem u v) xs t l a t₂ l₂ →
      Says (ThinAnswer.told a) (of_counted r) × (t₁ ≡ t₂) × (l₁ ≡ l₂)
  pub thin_plain_one : (u : ℕ) (v : Float) {xs : List ℤ} {t l : List ℕ} {r q : Counted} {t₁ t₂ l₁ l₂ : List ℕ} → ThinShown u v xs t l r t₁ l₁ → ThinShown u v xs t l q t₂ l₂ → (r ≡ q) × (t₁ ≡ t₂) × (l₁ ≡ l₂)
  pub open_log : {b : List ℕ} {r : LogOpened} {a : Result Heading Refusal} → OpenShown b r → OpenedLog b a → Says (told_opened a) (of_log_opened r)
  pub open_log_one : {b : List ℕ} {r q : LogOpened} → OpenShown b r → OpenShown b q → r ≡ q
  pub next_record_lem : {b : List ℕ} {at : ℕ} {r : Asked} {a : Next} → NextShown b at r → NextRecord b at a → Says (told_next a) (of_asked r)
  pub next_record_one : {b : List ℕ} {at : ℕ} {r q : Asked} → NextShown b at r → NextShown b at q → r ≡ q
  pub exact_sum_lem : {xs : List ℤ} {t : List ℕ} {r : Exact} (a : Result Wide Refusal) → ExactShown xs t r → ExactReport xs t (VolumeAnswer.told_exact a) → Says (VolumeAnswer.told_exact a) (of_exact r)
  pub exact_sum_one : {xs : List ℤ} {t : List ℕ} {r q : Exact} → ExactShown xs t r → ExactShown xs t q → r ≡ q
