-- What each call that may refuse says where it crosses: the numbers, gathered in a struct, show an answer that the call itself gives, in its own words.
use Rattle.std.specs.Prelude.{◌≡◌, List, ℕ, ℤ, Float, length}
use Rattle.record.specs.Layout.{width}
use Rattle.length.specs.Limit.{limit_of}
use Rattle.length.specs.Answer as LengthAnswer
use Rattle.thin.specs.Thin.{Thinned}
use Rattle.thin.specs.Answer as ThinAnswer
use Rattle.regrow.specs.Outcome.{GrownAs}
use Rattle.regrow.specs.Answer as RegrowAnswer
use Rattle.replay.specs.Outcome.{ReplayedAs}
use Rattle.volume.specs.Report.{VolumeReport, ChangeReport, ExactReport}
use Rattle.volume.specs.Answer as VolumeAnswer
use Rattle.shift.specs.Report.{ShiftReport}
use Rattle.shift.specs.Answer as ShiftAnswer
use Rattle.sheet.specs.Outcome.{ReadSheet}
use Rattle.sheet.specs.Answer as SheetAnswer
use Rattle.job.specs.Outcome.{JobAnswered}
use Rattle.job.specs.Answer as JobAnswer
use Rattle.flipped.specs.Answer as FlipAnswer
use Rattle.fliplist.specs.Outcome.{FlippedAs}
use Rattle.undoflips.specs.Outcome.{UndoneAs}
use Rattle.reply.specs.Outcome.{Replied}
use Rattle.tell.specs.Answer as ReplyAnswer
use Rattle.logsheet.specs.Outcome.{ReadLogSheet, WroteLogSheet}
use Rattle.logsheet.specs.Answer as LogAnswer
use Rattle.logrecords.specs.Outcome.{OpenedLog, NextRecord}
use Rattle.logrecords.specs.Answer.{told_opened, told_next}
use Rattle.logreader.specs.Outcome.{EachRecord}
use Rattle.recover.specs.Outcome.{RecoveredBy}
use Rattle.recover.specs.Answer as RecoverAnswer
use Rattle.across.specs.declared.Counted.{Counted}
use Rattle.across.specs.declared.Measure.{Measure}
use Rattle.across.specs.declared.Exact.{Exact}
use Rattle.across.specs.declared.StandIn.{StandIn}
use Rattle.across.specs.declared.Centimetres.{Centimetres}
use Rattle.across.specs.declared.Counts.{Counts}
use Rattle.across.specs.declared.Written.{Written}
use Rattle.across.specs.declared.LogRead.{LogRead}
use Rattle.across.specs.declared.Recovery.{Recovery}
use Rattle.across.specs.declared.LogOpened.{LogOpened}
use Rattle.across.specs.declared.Asked.{Asked}
use Rattle.across.specs.Units.{length_of_lem, order_of_lem}
use Rattle.across.specs.Says.{Shown}
use Rattle.across.specs.Fields.{of_counted, of_measure, of_exact, of_stand_in, of_centimetres, of_counts, of_written, of_log_read, of_recovery, of_log_opened, of_asked}

-- thinning under the order of the unit u and the figure v
abbrev pub ThinShown : ℕ → Float → List ℤ → List ℕ → List ℕ → Counted → List ℕ → List ℕ → Type 0
ThinShown u v xs t l r t' l' = Shown (λ a. Thinned (order_of_lem u v) xs t l a t' l') ThinAnswer.told (of_counted r)

-- growing back
abbrev pub GrowShown : ℕ → ℕ → List ℕ → List ℕ → Counted → List ℕ → Type 0
GrowShown n m room log r room' = Shown (λ a. GrownAs n m room log a room') RegrowAnswer.told (of_counted r)

-- replay
abbrev pub ReplayShown : ℕ → List ℕ → List ℕ → Counted → List ℕ → Type 0
ReplayShown n t log r t' = Shown (λ a. ReplayedAs n t log a t') RegrowAnswer.told (of_counted r)

-- a volume
abbrev pub VolumeShown : List ℤ → List ℕ → Measure → Type 0
VolumeShown xs t r = Shown (λ a. VolumeReport xs t (VolumeAnswer.told a)) VolumeAnswer.told (of_measure r)

-- a change
abbrev pub ChangeShown : List ℤ → List ℕ → List ℕ → Measure → Type 0
ChangeShown xs earlier later r = Shown (λ a. ChangeReport xs earlier later (VolumeAnswer.told a)) VolumeAnswer.told (of_measure r)

-- an exact sum
abbrev pub ExactShown : List ℤ → List ℕ → Exact → Type 0
ExactShown xs t r = Shown (λ a. ExactReport xs t (VolumeAnswer.told_exact a)) VolumeAnswer.told_exact (of_exact r)

-- a shift
abbrev pub ShiftShown : List ℤ → List ℕ → ℕ → StandIn → Type 0
ShiftShown xs log v r = Shown (λ a. ShiftReport xs log v (ShiftAnswer.told a)) ShiftAnswer.told (of_stand_in r)

-- a typed limit
abbrev pub LimitShown : ℕ → Float → Centimetres → Type 0
LimitShown u v r = Shown (λ a. a ≡ limit_of (length_of_lem u v)) LengthAnswer.told (of_centimetres r)

-- a sheet
abbrev pub SheetShown : List ℕ → List ℕ → List ℕ → List ℤ → List ℤ → Counts → Type 0
SheetShown b t t' xs xs' r = Shown (λ a. ReadSheet b t t' xs xs' a) SheetAnswer.told (of_counts r)

-- a job
abbrev pub JobShown : List ℕ → Measure → Type 0
JobShown b r = Shown (λ a. JobAnswered b a) JobAnswer.told (of_measure r)

-- flipping a list
abbrev pub FlipShown : ℕ → List ℕ → List ℕ → List ℕ → Counted → List ℕ → List ℕ → Type 0
FlipShown n t edges l r t' l' = Shown (λ a. FlippedAs n t edges l a t' l') FlipAnswer.told (of_counted r)

-- undoing a flip log
abbrev pub UndoShown : ℕ → List ℕ → List ℕ → Counted → List ℕ → Type 0
UndoShown n t log r t' = Shown (λ a. UndoneAs n t log a t') FlipAnswer.told (of_counted r)

-- the desk's answer
abbrev pub ReplyShown : List ℕ → List ℕ → Written → List ℕ → Type 0
ReplyShown b text r text' = Shown (λ a. Replied b text a text') ReplyAnswer.told (of_written r)

-- writing a log sheet
abbrev pub WriteLogShown : ℕ → ℕ → List ℕ → List ℕ → Written → List ℕ → Type 0
WriteLogShown n m log text r text' = Shown (λ a. WroteLogSheet n m log text text' a) ReplyAnswer.told (of_written r)

-- reading a log sheet
abbrev pub ReadLogShown : List ℕ → List ℕ → List ℕ → LogRead → Type 0
ReadLogShown b room room' r = Shown (λ a. ReadLogSheet b room room' a) LogAnswer.told (of_log_read r)

-- reading it record by record
abbrev pub EachShown : List ℕ → List ℕ → List ℕ → LogRead → Type 0
EachShown b room room' r = Shown (λ a. EachRecord b room room' a) LogAnswer.told (of_log_read r)

-- recovery under the order of the unit u and the figure v
abbrev pub RecoverShown : ℕ → Float → List ℤ → List ℕ → List ℕ → List ℕ → Recovery → List ℕ → List ℕ → Type 0
RecoverShown u v xs t l b r t' l' = Shown (λ a. RecoveredBy (order_of_lem u v) xs t l b a t' l') RecoverAnswer.told (of_recovery r)

-- opening a log sheet
abbrev pub OpenShown : List ℕ → LogOpened → Type 0
OpenShown b r = Shown (λ a. OpenedLog b a) told_opened (of_log_opened r)

-- the record at a place
pub record NextShown (b : List ℕ) (at : ℕ) (r : Asked) : Type 0 where
  pub shown : Shown (λ a. NextRecord b at a) told_next (of_asked r)
  -- as many numbers as a record has
  pub many : length r.numbers ≡ width
