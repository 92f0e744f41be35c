-- Demand 3 of what thinning leaves: volumes, changes and shifts, read from the log that it wrote.
use mathlib.Core.Path.{◌≡◌, sym, ◌∙◌, ap}
use mathlib.Core.List.{List, ◌++◌}
use Prim.Native.Nat.{ℕ, ◌<◌}
use lib.IntN.{ℤ, ◌-ℤ◌}
use lib.ListN.{length, take}
use Rattle.std.specs.Prelude.{Result, Some, Option, Ok}
use Rattle.refusal.specs.declared.Refusal.{Refusal}
use Rattle.surface.specs.Rows.{Row, rows, flat}
use Rattle.surface.specs.Record.{Record}
use Rattle.faults.specs.Counts.{corners}
use Rattle.run.specs.Run.{Taken}
use Rattle.run.proofs.Main.{taken_replayed}
use Rattle.distance.specs.Corners.{Short}
use Rattle.figure.specs.Sum.{sixfold}
use Rattle.wide.specs.Rounding.{figure}
use Rattle.wide.proofs.Rounded.{figure_near}
use Rattle.record.specs.Layout.{log_of, room_for}
use Rattle.length.specs.declared.Length.{Length}
use Rattle.length.specs.declared.Order.TheVariants.{Limit}
use Rattle.length.specs.Limit.{limit_of}
use Rattle.least.specs.Limited.{Allowed}
use Rattle.thin.specs.Order.{Asked, asked_by, asked}
use Rattle.thin.specs.Run.{RunOf}
use Rattle.volume.specs.Answer as volumes
use Rattle.volume.specs.Report.{VolumeReport, ChangeReport, Near}
use Rattle.volume.proofs.Main.{log_volume, log_change}
use Rattle.shift.specs.declared.Shifted.{Shifted}
use Rattle.shift.specs.Answer as shifts
use Rattle.shift.specs.Report.{ShiftReport, Bounded}
use Rattle.shift.proofs.Main.{log_shift_bound}
use Rattle.lines.specs.Kinds.{row_lines, record_lines}
use Rattle.tell.specs.Text.{ok_text}
use Rattle.reply.specs.Outcome.{SkinOf, Replied}
use Rattle.reply.proofs.Main.{skin_tells}
use Rattle.promises.specs.Thinning.{PrintedNear}
use Rattle.promises.proofs.Logged.{front_log}

pub within : {L : ℕ} {b : Option ℕ} (xs : List ℤ) → ◌≡◌ {A = Asked} (Ok (Some L)) (Ok b) → (x y : ℕ) → Allowed b xs x y → Short xs L x y
within {L} {b} xs e x y h = let k : b ≡ Some L = cc in rw k at h

-- for a log that thinning wrote under a limit of L, or a beginning of one, read with the corners it was written over, the squared distance
-- is at most k x k x L x L, k being the count
pub shift_promised : (d : Length) {L : ℕ} → limit_of d ≡ Some L → {xs : List ℤ} {t l : List ℕ} {k : ℕ} {t' l' : List ℕ} (w : RunOf (asked (Limit d)) xs t l k t' l') →
    (p q : List Record) → w.log ≡ p ++ q → (v : ℕ) → v < corners xs → (a : Result Shifted Refusal) → ShiftReport xs (take (room_for (length p)) l') v (shifts.told a) → Bounded L a
shift_promised d {L} read {xs} w p q e v b a r =
    log_shift_bound L w.skin.stage w.skin.corners w.skin.in_range (within xs (sym (ap asked_by read) ∙ w.under)) p q (rw e at w.run.taken) b a (rw (front_log w p q e) at r)

-- the volume of each stage of its log is within half a cubic metre of exact, and each change too
pub volume_promised : {d : Asked} {xs : List ℤ} {t l : List ℕ} {k : ℕ} {t' l' : List ℕ} (w : RunOf d xs t l k t' l') (p : List Record) {T₁ : List Row} →
    Taken (Allowed w.b xs) (rows t) p T₁ → (a : Result ℤ Refusal) → VolumeReport xs (flat T₁) (volumes.told a) → Near (sixfold xs T₁) a
volume_promised w p h a r = log_volume w.skin (taken_replayed h) a r

pub change_promised : {d : Asked} {xs : List ℤ} {t l : List ℕ} {k : ℕ} {t' l' : List ℕ} (w : RunOf d xs t l k t' l') (p q : List Record) {T₁ T₂ : List Row} →
    Taken (Allowed w.b xs) (rows t) p T₁ → Taken (Allowed w.b xs) (rows t) q T₂ → (a : Result ℤ Refusal) → ChangeReport xs (flat T₁) (flat T₂) (volumes.told a) → Near (sixfold xs T₂ -ℤ sixfold xs T₁) a
change_promised w p q h i a r = log_change w.skin (taken_replayed h) (taken_replayed i) a r

-- the two volumes that the desk prints of a skin's sheet
pub printed_promised : {b text : List ℕ} {a : Result ℕ Refusal} {text' : List ℕ} (w : Replied b text a text') {xs : List ℤ} {t : List ℕ} → SkinOf b xs t → PrintedNear xs t w.txt
unfolding ok_text
printed_promised w {xs} {t} s = let k = skin_tells w.answers s in record {
  log = k.log;
  last = k.last;
  run = k.run;
  first_volume = figure (sixfold xs (rows t));
  last_volume = figure (sixfold xs k.last);
  rest = row_lines (length k.last) (flat k.last) ++ record_lines (length k.log) (log_of k.log);
  begins = k.text;
  first_near = figure_near (sixfold xs (rows t));
  last_near = figure_near (sixfold xs k.last);
}
