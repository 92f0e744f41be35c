-- Demands 2 and 3, of what thinning is asked and of what it leaves.
use Rattle.refusal.specs.declared.Refusal.TheVariants.{LimitUnusable}
use Rattle.std.specs.Prelude.{◌≡◌, List, [], ◌∷◌, ◌++◌, ℕ, ◌-◌, ◌*◌, ◌≤◌, ◌<◌, ◌%◌, ℤ, pos, ◌-ℤ◌, length, take, drop, Result, Some, None, Err}
use Rattle.surface.specs.Rows.{Row, rows, flat}
use Rattle.surface.specs.Record.{Record}
use Rattle.corners.specs.Skin.{Skin}
use Rattle.refusal.specs.declared.Refusal.{Refusal}
use Rattle.refusal.specs.Told as answers
use Rattle.faults.specs.Counts.{corners}
use Rattle.run.specs.Run.{Taken, Run}
use Rattle.figure.specs.Sum.{sixfold}
use Rattle.wide.specs.Rounding.{WithinHalf}
use Rattle.record.specs.Layout.{room_for}
use Rattle.record.specs.Front.{zeroed}
use Rattle.length.specs.declared.Order.{Order}
use Rattle.length.specs.declared.Order.TheVariants.{Limit}
use Rattle.length.specs.declared.Length.{Length}
use Rattle.length.specs.Limit.{limit_of}
use Rattle.least.specs.Limited.{Allowed}
use Rattle.thin.specs.Answer as thinnings
use Rattle.thin.specs.Order.{asked}
use Rattle.thin.specs.Thin.{log_need, Thinned}
use Rattle.thin.specs.Run.{RunOf, KeptAfter}
use Rattle.regrow.specs.declared.Halt.{Halt}
use Rattle.regrow.specs.Answer as regrowths
use Rattle.regrow.specs.Outcome.{GrownAs}
use Rattle.replay.specs.Outcome.{ReplayedAs}
use Rattle.volume.specs.Answer as volumes
use Rattle.volume.specs.Report.{VolumeReport, ChangeReport, Near}
use Rattle.shift.specs.declared.Shifted.{Shifted}
use Rattle.shift.specs.Answer as shifts
use Rattle.shift.specs.Report.{ShiftReport, Bounded}
use Rattle.lines.specs.Lines.{line}
use Rattle.tell.specs.Text.{OK}
use Rattle.reply.specs.Outcome.{SkinOf, Replied}

-- where thinning under an order is done, and tells 0 and k records
pub record DoneWith (o : Order) (xs : List ℤ) (t l : List ℕ) (k : ℕ) (t' l' : List ℕ) : Type 0 where
  pub answer : Result ℕ Refusal
  pub tells : thinnings.told answer ≡ answers.done (pos k ∷ [])
  pub thinned : Thinned o xs t l answer t' l'

pub record DemandTwo : Type 0 where
  -- with room and a usable limit or none, every skin within the limits is accepted
  pub accepts : (o : Order) {xs : List ℤ} {t l : List ℕ} {a : Result ℕ Refusal} {t' l' : List ℕ} → ¬ (asked o ≡ Err LimitUnusable) → length t % 3 ≡ 0 → Skin (corners xs) (rows t) xs → log_need xs ≤ length l →
      Thinned o xs t l a t' l' → (k : ℕ) × (thinnings.told a ≡ answers.done (pos k ∷ []))
  -- each contraction is the least edge that meets the link condition and the limit, and it stops only when no edge is left: `Run`
  pub runs : (o : Order) {xs : List ℤ} {t l : List ℕ} {k : ℕ} {t' l' : List ℕ} → DoneWith o xs t l k t' l' → RunOf (asked o) xs t l k t' l'
  -- after each beginning p of its records a closed oriented stage stands, of the same Euler number, with two rows and one used corner fewer for each record
  pub keeps : (o : Order) {xs : List ℤ} {t l : List ℕ} {k : ℕ} {t' l' : List ℕ} → (w : RunOf (asked o) xs t l k t' l') (p q : List Record) → w.log ≡ p ++ q →
      (T₁ : List Row) × Taken (Allowed w.b xs) (rows t) p T₁ × KeptAfter (corners xs) (rows t) p T₁
  -- growing back the log restores the first table, number for number
  pub restores : (o : Order) {xs : List ℤ} {t l : List ℕ} {k : ℕ} {t' l' : List ℕ} → DoneWith o xs t l k t' l' → {a : Result ℕ Halt} {r : List ℕ} →
      GrownAs (corners xs) (length (rows t) - 2 * k) t' (take (room_for k) l') a r → (regrowths.told a ≡ answers.done (pos k ∷ [])) × (r ≡ t)
  -- and from record i on, the table before record i; p are the first i records
  pub restores_from : (o : Order) {xs : List ℤ} {t l : List ℕ} {k : ℕ} {t' l' : List ℕ} (w : RunOf (asked o) xs t l k t' l') (p q : List Record) → w.log ≡ p ++ q →
      {T₁ : List Row} → Taken (Allowed w.b xs) (rows t) p T₁ → {a : Result ℕ Halt} {r : List ℕ} →
      GrownAs (corners xs) (length (rows t) - 2 * k) t' (drop (room_for (length p)) (take (room_for k) l')) a r → (regrowths.told a ≡ answers.done (pos (length q) ∷ [])) × (r ≡ zeroed T₁ t)
  -- replaying it from the first table does every record, and leaves what thinning left
  pub replays : (o : Order) {xs : List ℤ} {t l : List ℕ} {k : ℕ} {t' l' : List ℕ} → DoneWith o xs t l k t' l' → {a : Result ℕ Halt} {r : List ℕ} →
      ReplayedAs (corners xs) t (take (room_for k) l') a r → (regrowths.told a ≡ answers.done (pos k ∷ [])) × (r ≡ t')

-- txt begins with the desk's first line, `OK`, rows left, records, first and last volume, and the two are within half a cubic metre of exact: of the
-- table t over the coordinates xs, and of the last stage of the run without limit from it
pub record PrintedNear (xs : List ℤ) (t txt : List ℕ) : Type 0 where
  pub log : List Record
  pub last : List Row
  pub run : Run (Allowed None xs) (rows t) log last
  pub first_volume : ℤ
  pub last_volume : ℤ
  pub rest : List ℕ
  pub begins : txt ≡ line OK (pos (length last) ∷ pos (length log) ∷ first_volume ∷ last_volume ∷ []) ++ rest
  pub first_near : WithinHalf (sixfold xs (rows t)) first_volume
  pub last_near : WithinHalf (sixfold xs last) last_volume

pub record DemandThree : Type 0 where
  -- each volume shown is within half a cubic metre of exact for that stage's own triangles; p are the records before the stage T₁
  pub volumes_near : (o : Order) {xs : List ℤ} {t l : List ℕ} {k : ℕ} {t' l' : List ℕ} (w : RunOf (asked o) xs t l k t' l') (p : List Record) {T₁ : List Row} →
      Taken (Allowed w.b xs) (rows t) p T₁ → (a : Result ℤ Refusal) → VolumeReport xs (flat T₁) (volumes.told a) → Near (sixfold xs T₁) a
  -- each change too
  pub changes_near : (o : Order) {xs : List ℤ} {t l : List ℕ} {k : ℕ} {t' l' : List ℕ} (w : RunOf (asked o) xs t l k t' l') (p q : List Record) {T₁ T₂ : List Row} →
      Taken (Allowed w.b xs) (rows t) p T₁ → Taken (Allowed w.b xs) (rows t) q T₂ → (a : Result ℤ Refusal) → ChangeReport xs (flat T₁) (flat T₂) (volumes.told a) → Near (sixfold xs T₂ -ℤ sixfold xs T₁) a
  -- under an order whose limit reads as L cm every first corner lies within k x L of its stand-in, for the log or a beginning of it
  pub shifts_within : (d : Length) {L : ℕ} → limit_of d ≡ Some L → {xs : List ℤ} {t l : List ℕ} {k : ℕ} {t' l' : List ℕ} (w : RunOf (asked (Limit d)) xs t l k t' l') (p q : List Record) → w.log ≡ p ++ q →
      (v : ℕ) → v < corners xs → (a : Result Shifted Refusal) → ShiftReport xs (take (room_for (length p)) l') v (shifts.told a) → Bounded L a
  -- the two volumes that the desk prints of a skin's sheet too
  pub printed_near : {b text : List ℕ} {a : Result ℕ Refusal} {text' : List ℕ} (w : Replied b text a text') {xs : List ℤ} {t : List ℕ} → SkinOf b xs t → PrintedNear xs t w.txt
