-- The theorems on volumes and changes: no second answer, none refused for a stage, each within half a cubic metre.
use mathlib.Core.Path.{◌≡◌, refl, sym, ap}
use mathlib.Core.List.{List}
use Prim.Native.Nat.{ℕ, ◌*◌}
use native.Mathlib.Omega.{arith}
use lib.IntN.{ℤ, ◌-ℤ◌}
use lib.ListN.{length}
use Rattle.std.specs.Prelude.{Ok, Err, Result}
use Rattle.surface.specs.Rows.{Row, rows, flat}
use Rattle.surface.specs.Stage.{Stage}
use Rattle.surface.specs.InnerStageTable.{StageTable}
use Rattle.surface.specs.Record.{Record, Replayed}
use Rattle.surface.proofs.Flat.{rows_flat, flat_length}
use Rattle.corners.specs.Skin.{InRange, Skin}
use Rattle.refusal.specs.declared.Refusal.{Refusal}
use Rattle.refusal.specs.Told.{Told}
use Rattle.refusal.proofs.Laws.{first_one, verdicts}
use Rattle.refusal.specs.Inner.{lesser_of}
use Rattle.refusal.proofs.Outcome.{tells_refusal, refused_done, outcome_one}
use Rattle.faults.specs.Counts.{corners}
use Rattle.faults.specs.Order.{CheckedStageAt}
use Rattle.faults.proofs.Opposites.{stage_rows, stage_corners}
use Rattle.faults.proofs.Order.{one_stage_at, stage_passes_at}
use Rattle.figure.specs.Sum.{sixfold}
use Rattle.wide.specs.Rounding.{figure, change}
use Rattle.wide.proofs.Rounded as rounded
use Rattle.run.proofs.Main.{replayed_stage}
use Rattle.volume.specs.Answer.{told}
use Rattle.volume.specs.Report.{VolumeReport, ChangeReport, Near}
use Rattle.volume.proofs.Laws.{volume_done, change_done}

-- what is told tells the answer
pub told_one : (a b : Result ℤ Refusal) → told a ≡ told b → a ≡ b
told_one (Ok f) (Ok g) e = let v = ap (λ (t : Told). t.values) e in let h : f ≡ g = cc in ap Ok h
told_one (Ok f) (Err s) e = absurd (refused_done s (sym e))
told_one (Err r) (Ok g) e = absurd (refused_done r e)
told_one (Err r) (Err s) e = ap Err (tells_refusal e)

-- no second answer meets the words of `volume`
pub volume_one : {xs : List ℤ} {t : List ℕ} (a b : Result ℤ Refusal) → VolumeReport xs t (told a) → VolumeReport xs t (told b) → a ≡ b
volume_one a b p q = told_one a b (outcome_one _ (one_stage_at p.checked q.checked) p.tells q.tells)

-- nor those of `change`
pub change_one : {xs : List ℤ} {t s : List ℕ} (a b : Result ℤ Refusal) → ChangeReport xs t s (told a) → ChangeReport xs t s (told b) → a ≡ b
change_one a b p q = told_one a b (outcome_one _ (first_one verdicts _ p.first q.first) p.tells q.tells)

-- stages over the coordinates of n corners, all in range
module _ {n : ℕ} {xs : List ℤ} (e : length xs ≡ 3 * n) (r : InRange xs) where
  passes : {t : List ℕ} → StageTable n t → CheckedStageAt xs t (Ok tt)
  passes {t} s =
      let c = s.count in
      let k : n ≡ corners xs = omega arith in
      let z : Stage (corners xs) (rows t) = rw k at s.stage in
      record {
        holds = stage_passes_at t (omega arith) xs (omega arith) z r;
        fits = λ h. record { table = record { threes = omega arith; count = stage_rows z }; coordinates = record { threes = omega arith; count = stage_corners z } };
        stage = λ h. z;
        in_range = λ h. r;
      }

  -- a volume is never refused
  pub volume_there : {t : List ℕ} → StageTable n t → VolumeReport xs t (told (Ok (figure (sixfold xs (rows t)))))
  volume_there s = volume_done (passes s) refl refl

  -- and lies within half a cubic metre of the exact one
  pub volume_near : {t : List ℕ} → StageTable n t → (a : Result ℤ Refusal) → VolumeReport xs t (told a) → Near (sixfold xs (rows t)) a
  volume_near {t} s a p = record { f = figure (sixfold xs (rows t)); tells = ap told (volume_one a (Ok (figure (sixfold xs (rows t)))) p (volume_there s)); near = rounded.figure_near (sixfold xs (rows t)) }

  -- the same of the change between two
  pub change_there : {t s : List ℕ} → StageTable n t → StageTable n s → ChangeReport xs t s (told (Ok (change (sixfold xs (rows t)) (sixfold xs (rows s)))))
  unfolding lesser_of
  change_there t s = change_done (passes t) (passes s) refl refl

  pub change_near : {t s : List ℕ} → StageTable n t → StageTable n s → (a : Result ℤ Refusal) → ChangeReport xs t s (told a) → Near (sixfold xs (rows s) -ℤ sixfold xs (rows t)) a
  change_near {t} {s} p q a c =
      record { f = change (sixfold xs (rows t)) (sixfold xs (rows s)); tells = ap told (change_one a (Ok (change (sixfold xs (rows t)) (sixfold xs (rows s)))) c (change_there p q)); near = rounded.change_near (sixfold xs (rows t)) (sixfold xs (rows s)) }

-- the stages of a log over a skin, whoever wrote it
module _ {n : ℕ} {T : List Row} {xs : List ℤ} (k : Skin n T xs) where
  stage_of_log : {l : List Record} {T' : List Row} → Replayed T l T' → StageTable n (flat T')
  stage_of_log {T' = T'} w = record { count = rw (rows_flat T') (flat_length T'); stage = rw (rows_flat T') (replayed_stage k.stage w) }

  -- the volume of each is within half a cubic metre
  pub log_volume : {l : List Record} {T' : List Row} → Replayed T l T' → (a : Result ℤ Refusal) → VolumeReport xs (flat T') (told a) → Near (sixfold xs T') a
  log_volume {T' = T'} w a p = rw (rows_flat T') at (volume_near k.corners k.in_range (stage_of_log w) a p)

  -- and so is the change between any two
  pub log_change : {l m : List Record} {T₁ T₂ : List Row} → Replayed T l T₁ → Replayed T m T₂ → (a : Result ℤ Refusal) → ChangeReport xs (flat T₁) (flat T₂) (told a) →
      Near (sixfold xs T₂ -ℤ sixfold xs T₁) a
  log_change {T₁ = T₁} {T₂ = T₂} w z a p = rw (rows_flat T₁, rows_flat T₂) at (change_near k.corners k.in_range (stage_of_log w) (stage_of_log z) a p)
