-- Two refusals of a job have two numbers, and none has the number of what is done: so what is told tells the answer.
use mathlib.Core.Path.{◌≡◌, refl, sym, ◌∙◌, ap}
use mathlib.Core.List.{List, [], ◌∷◌}
use Prim.Native.Nat.{◌-◌, ◌<◌}
use native.Mathlib.Omega.{arith}
use lib.IntN.{ℤ}
use lib.ListN.{get_or}
use Rattle.refusal.specs.declared.Refusal.TheVariants as refusal
use Rattle.refusal.specs.Number as refusals
use Rattle.refusal.specs.Told.{Told, done}
use Rattle.job.specs.declared.JobRefusal.{JobRefusal}
use Rattle.job.specs.declared.JobRefusal.TheVariants.{SheetForm, JobCount, JobKind, JobName, JobAlternation, JobDepth, JobSum}
use Rattle.job.specs.Number.{number}
use Rattle.job.specs.Answer.{refused}

-- the form's, and those from 20 on
in_order : List JobRefusal
in_order = SheetForm ∷ JobCount ∷ JobKind ∷ JobName ∷ JobAlternation ∷ JobDepth ∷ JobSum ∷ []

-- a number is above 0 and tells its refusal
numbered : (r : JobRefusal) → (0 < number r) × (get_or in_order (number r - 19) SheetForm ≡ r)
unfolding in_order
numbered SheetForm = (omega arith, refl)
numbered JobCount = (omega arith, refl)
numbered JobKind = (omega arith, refl)
numbered JobName = (omega arith, refl)
numbered JobAlternation = (omega arith, refl)
numbered JobDepth = (omega arith, refl)
numbered JobSum = (omega arith, refl)

-- a bad form has 01's number
pub form_number : number SheetForm ≡ refusals.number refusal.SheetForm
form_number = refl

pub tells_refusal : (r s : JobRefusal) → refused r ≡ refused s → r ≡ s
tells_refusal r s e = sym (numbered r).1 ∙ ap (λ (t : Told). get_or in_order (t.number - 19) SheetForm) e ∙ (numbered s).1

-- what is refused is not done
pub refused_done : (r : JobRefusal) {vs : List ℤ} → refused r ≡ done vs → ⊥
refused_done r e = let h = (numbered r).0 in let k = ap (λ (t : Told). t.number) e in omega arith
