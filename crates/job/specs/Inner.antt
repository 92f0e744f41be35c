-- What inner functions give: no public contract names it.
use Rattle.std.specs.Prelude.{◌≡◌, List, [], ◌∷◌, ℕ, ℤ, Result, Ok, Err}
use Rattle.refusal.specs.First.{Clause, ◌when◌, FirstOf}
use Rattle.wide.specs.Rounding.{figure}
use Rattle.jobform.specs.declared.Entry.{Entry}
use Rattle.nest.specs.Questions.{Every, Marked, Named, Alternates, Shallow, SumIn}
use Rattle.nest.specs.Net.{Nets, told_sum}
use Rattle.job.specs.declared.JobRefusal.{JobRefusal}
use Rattle.job.specs.declared.JobRefusal.TheVariants.{JobKind, JobName, JobAlternation, JobDepth, JobSum}

-- the questions asked of entries that are read, in their order
unfoldable pub asked : List Entry → List (Clause JobRefusal)
asked es =
    (JobKind when (¬ Every Marked es))
    ∷ (JobName when (¬ Every Named es))
    ∷ (JobAlternation when (¬ Every Alternates es))
    ∷ (JobDepth when (¬ Every Shallow es))
    ∷ (JobSum when (¬ Every SumIn es))
    ∷ []

-- the first of them that is not answered well, or that none is
abbrev pub AskedFirst : List Entry → Result Unit JobRefusal → Type 0
AskedFirst es = FirstOf (Ok tt) Err (asked es)

-- every question answered well
pub record Passing (es : List Entry) : Type 0 where
  pub marked : Every Marked es
  pub named : Every Named es
  pub alternates : Every Alternates es
  pub shallow : Every Shallow es
  pub sums : Every SumIn es

-- the first that holds of the entries es, and where none does, all is well
pub record Judged (es : List Entry) (v : Result Unit JobRefusal) : Type 0 where
  pub first : AskedFirst es v
  pub passing : v ≡ Ok tt → Passing es

-- what the entries es come to
pub data Settled (es : List Entry) (a : Result ℤ JobRefusal) : Type 0 where
  turned_down : {r : JobRefusal} → AskedFirst es (Err r) → a ≡ Err r → Settled es a
  worked_out : (net : ℕ → ℤ) → AskedFirst es (Ok tt) → Nets es (told_sum es) net → a ≡ Ok (figure (net 0)) → Settled es a
