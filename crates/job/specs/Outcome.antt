-- A job sheet's answer: "The answer is the topmost net, rounded once; nothing is written." The whole outcome.
use Rattle.std.specs.Prelude.{◌≡◌, List, [], ◌∷◌, ℕ, ◌<◌, ℤ, length, Result, Ok, Err}
use Rattle.refusal.specs.First.{Clause, ◌when◌, FirstOf}
use Rattle.wide.specs.Rounding.{figure}
use Rattle.jobform.specs.declared.Entry.{Entry}
use Rattle.jobform.specs.Limits.{most_job_bytes}
use Rattle.jobform.specs.JobSheet.{JobSheetOf, NoJobSheet}
use Rattle.nest.specs.Questions.{Every, Counted, Marked, Named, Alternates, Shallow, SumIn}
use Rattle.nest.specs.Net.{Nets, told_sum}
use Rattle.job.specs.declared.JobRefusal.{JobRefusal}
use Rattle.job.specs.declared.JobRefusal.TheVariants.{SheetForm, JobCount, JobKind, JobName, JobAlternation, JobDepth, JobSum}

-- b is a job sheet whose entries are not good in one way
pub record Fails (b : List ℕ) (Good : List Entry → Type 0) : Type 0 where
  pub es : List Entry
  pub sheet : JobSheetOf b es
  pub not : ¬ Good es

-- "bad form or another number of lines 12, tested first", and over 65,536 bytes is bad form, as of a sheet; "Order: count, kind, name, alternation,
-- depth, sum"
unfoldable pub job_refusals : List ℕ → List (Clause JobRefusal)
job_refusals b =
    (SheetForm when (most_job_bytes < length b))
    ∷ (SheetForm when NoJobSheet b)
    ∷ (JobCount when Fails b Counted)
    ∷ (JobKind when Fails b (Every Marked))
    ∷ (JobName when Fails b (Every Named))
    ∷ (JobAlternation when Fails b (Every Alternates))
    ∷ (JobDepth when Fails b (Every Shallow))
    ∷ (JobSum when Fails b (Every SumIn))
    ∷ []

-- the first of them that holds, or that none does
abbrev pub JobFirst : List ℕ → Result Unit JobRefusal → Type 0
JobFirst b = FirstOf (Ok tt) Err (job_refusals b)

-- asking b for its job's net answers a
pub data JobAnswered (b : List ℕ) (a : Result ℤ JobRefusal) : Type 0 where
  refused : {r : JobRefusal} → JobFirst b (Err r) → a ≡ Err r → JobAnswered b a
  answered : (es : List Entry) (net : ℕ → ℤ) → JobFirst b (Ok tt) → JobSheetOf b es → Nets es (told_sum es) net → a ≡ Ok (figure (net 0)) → JobAnswered b a
