-- Request 5 of 02: "The half cubic metre of demand 3 then holds for the net of the whole station."
use Rattle.std.specs.Prelude.{◌≡◌, List, [], ◌∷◌, ℕ, ◌*◌, ◌≤◌, ℤ, pos, ◌+ℤ◌, ◌*ℤ◌, nat_abs, None, Result}
use Rattle.surface.specs.Limits.{most_rows}
use Rattle.surface.specs.Rows.{rows}
use Rattle.corners.specs.Limits.{most_coordinate}
use Rattle.refusal.specs.Told.{Told, done}
use Rattle.wide.specs.Rounding.{divisor, WithinHalf, Nearest}
use Rattle.figure.specs.Sum.{sixfold}
use Rattle.volume.specs.Report.{VolumeReport, ExactReport}
use Rattle.jobform.specs.declared.Entry.{Entry}
use Rattle.jobform.specs.JobSheet.{job_text, JobSheetOf}
use Rattle.nest.specs.Limits.{most_sum}
use Rattle.nest.specs.Questions.{void_letter, At, Every, Counted, Marked, Named, Alternates, Shallow, SumIn}
use Rattle.nest.specs.Net.{Nets, told_sum}
use Rattle.job.specs.declared.JobRefusal.{JobRefusal}
use Rattle.job.specs.Answer as jobs
use Rattle.job.specs.Outcome.{JobAnswered}

-- a sheet b answered with a figure, whose entries are es
pub record NetTold (b : List ℕ) (es : List Entry) (f : ℤ) : Type 0 where
  pub answer : Result ℤ JobRefusal
  pub answered : JobAnswered b answer
  pub tells : jobs.told answer ≡ done (f ∷ [])
  pub sheet : JobSheetOf b es

-- a sum that is filled in from a stage: what the exact sum of its table and corners tells, put together
pub record Filled (xs : List ℤ) (t : List ℕ) (z : ℤ) : Type 0 where
  pub whole : ℤ
  pub rest : ℕ
  pub report : ExactReport xs t (done (whole ∷ pos rest ∷ []))
  pub line : z ≡ pos divisor *ℤ whole +ℤ pos rest

pub record Stations : Type 0 where
  -- entries whose count, kinds, names and sums are good can be written on a sheet
  pub writes : {es : List Entry} → Counted es → Every Marked es → Every Named es → Every SumIn es → JobSheetOf (job_text es) es
  -- and every sheet of entries that answer each question well is answered with a figure
  pub accepts : {b : List ℕ} {es : List Entry} {a : Result ℤ JobRefusal} → JobSheetOf b es → Counted es → Every Marked es → Every Named es → Every Alternates es → Every Shallow es → Every SumIn es →
      JobAnswered b a → (f : ℤ) × (jobs.told a ≡ done (f ∷ []))
  -- where a figure is told there are nets, by 02's two sentences
  pub nets : {b : List ℕ} {es : List Entry} {f : ℤ} → NetTold b es f → (net : ℕ → ℤ) × Nets es (told_sum es) net
  -- which agree on the whole: its exact net is one
  pub one_net : {b : List ℕ} {es : List Entry} {f : ℤ} {net net' : ℕ → ℤ} → NetTold b es f → Nets es (told_sum es) net → Nets es (told_sum es) net' → net 0 ≡ net' 0
  -- and the figure is within half a cubic metre of it
  pub near : {b : List ℕ} {es : List Entry} {f : ℤ} {net : ℕ → ℤ} → NetTold b es f → Nets es (told_sum es) net → WithinHalf (net 0) f
  -- a half going away from zero, on both sides
  pub nearest : {b : List ℕ} {es : List Entry} {f : ℤ} {net : ℕ → ℤ} → NetTold b es f → Nets es (told_sum es) net → Nearest (net 0) f
  -- where each entry's sum is filled in from a stage of its own, the volumes are so nested
  pub nested : {b : List ℕ} {es : List Entry} {f : ℤ} (xs : ℕ → List ℤ) (t : ℕ → List ℕ) → NetTold b es f → ((i : ℕ) (e : Entry) → At es i e → Filled (xs i) (t i) e.sum) →
      (net : ℕ → ℤ) × Nets es (λ i. sixfold (xs i) (rows (t i))) net
  -- and it is within half a cubic metre of the volumes so nested
  pub volumes : {b : List ℕ} {es : List Entry} {f : ℤ} (xs : ℕ → List ℤ) (t : ℕ → List ℕ) {net : ℕ → ℤ} → NetTold b es f → ((i : ℕ) (e : Entry) → At es i e → Filled (xs i) (t i) e.sum) →
      Nets es (λ i. sixfold (xs i) (rows (t i))) net → WithinHalf (net 0) f
  -- a sum may be as large as 1,024 rows of six products at the coordinate limit, so none that is filled in from a stage is out of range
  pub bound : most_sum ≡ most_rows * (6 * (most_coordinate * (most_coordinate * most_coordinate)))
  pub fits : {xs : List ℤ} {t : List ℕ} {z : ℤ} → Filled xs t z → nat_abs z ≤ most_sum
  -- a job of one void is its volume
  pub one_void : {xs : List ℤ} {t : List ℕ} {z : ℤ} {b : List ℕ} {a : Result ℤ JobRefusal} {v : Told} → Filled xs t z → JobSheetOf b (record { letter = void_letter; name = None; sum = z } ∷ []) → JobAnswered b a → VolumeReport xs t v →
      jobs.told a ≡ v
