-- What a job's answer comes to, and which jobs are answered.
use mathlib.Core.Path.{◌≡◌, sym, ◌∙◌, ap, subst}
use mathlib.Core.List.{List}
use Prim.Native.Nat.{ℕ}
use native.Mathlib.Omega.{arith}
use lib.IntN.{ℤ}
use Rattle.std.specs.Prelude.{Result, Ok}
use Rattle.refusal.proofs.Laws.{◌nor◌, none_yet, first_one, passes_none}
use Rattle.wide.specs.Rounding.{figure}
use Rattle.jobform.specs.declared.Entry.{Entry}
use Rattle.jobform.specs.JobSheet.{JobSheetOf}
use Rattle.jobform.proofs.Forming.{one_job}
use Rattle.jobform.proofs.Sizes.{sheet_size}
use Rattle.nest.specs.Questions.{Counted}
use Rattle.nest.specs.Net.{Nets, told_sum}
use Rattle.nest.proofs.Netting.{Sound, nets_there}
use Rattle.job.specs.declared.JobRefusal.{JobRefusal}
use Rattle.job.specs.Outcome.{job_refusals, JobFirst, JobAnswered, refused, answered}
use Rattle.job.specs.Inner.{Passing}
use Rattle.job.proofs.Judging.{verdicts}
use Rattle.job.proofs.Answering.{fails_there, one_net}

-- the figure is that of the topmost net, whichever nets the entries are given
pub the_net : {b : List ℕ} {f : ℤ} {es : List Entry} {net : ℕ → ℤ} → JobAnswered b (Ok f) → JobSheetOf b es → Nets es (told_sum es) net → f ≡ figure (net 0)
the_net (refused first e) s n = absurd cc
the_net {f = f} {net = net} (answered es' net' first s' n' e) s n =
    let same : f ≡ figure (net' 0) = cc in
    same ∙ ap figure (one_net first s' n' (subst (λ x. Nets x (told_sum x) net) (one_job s' s) n))

-- so it is told from the one topmost net that the two sentences give
pub told_net : {b : List ℕ} {f : ℤ} {es : List Entry} (z : ℤ) → JobAnswered b (Ok f) → JobSheetOf b es → ((net : ℕ → ℤ) → Nets es (told_sum es) net → net 0 ≡ z) → f ≡ figure z
told_net z (refused first e) s one = absurd cc
told_net {f = f} z (answered es' net first s' n e) s one = let same : f ≡ figure (net 0) = cc in same ∙ ap figure (one net (subst (λ x. Nets x (told_sum x) net) (sym (one_job s' s)) n))

-- a job of which every question is answered well is answered
module _ {b : List ℕ} {es : List Entry} (s : JobSheetOf b es) (c : Counted es) (p : Passing es) where
  pub passes : JobFirst b (Ok tt)
  unfolding job_refusals
  passes =
      (passes_none verdicts (job_refusals b)).1 (
      (λ h. (let k = h in omega (arith, sheet_size s c.few)))
      nor (λ none. none es s)
      nor (λ f. fails_there s f c)
      nor (λ f. fails_there s f p.marked)
      nor (λ f. fails_there s f p.named)
      nor (λ f. fails_there s f p.alternates)
      nor (λ f. fails_there s f p.shallow)
      nor (λ f. fails_there s f p.sums)
      nor none_yet)

  pub accepted : {a : Result ℤ JobRefusal} → JobAnswered b a → (f : ℤ) × (a ≡ Ok f)
  accepted (refused first e) = absurd (verdicts.none (first_one verdicts (job_refusals b) first passes))
  accepted (answered es' net first s' n e) = (figure (net 0), e)

  -- with the figure of the one topmost net
  pub answers : (z : ℤ) → ((net : ℕ → ℤ) → Nets es (told_sum es) net → net 0 ≡ z) → JobAnswered b (Ok (figure z))
  answers z one =
      let sound : Sound es = record { some = c.some; marked = p.marked; named = p.named; alternates = p.alternates; shallow = p.shallow } in
      let n = nets_there sound in
      answered es _ passes s n (ap (λ y. Ok (figure y)) (sym (one _ n)))
