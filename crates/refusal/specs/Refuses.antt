-- What a call tells, held against its list of refusals.
use Rattle.std.specs.Prelude.{◌≡◌, List, Ok, Err, Result}
use Rattle.refusal.specs.declared.Refusal.{Refusal}
use Rattle.refusal.specs.First.{Clause, FirstOf, Refusals}
use Rattle.refusal.specs.Told.{Told, refused}

-- what is told is a refusal exactly when the list has it: the first that holds is the answer, and it is given only then
pub record RefusesOf {R A : Type 0} (passes : A) (refuses : R → A) (tells : R → Told) (l : List (Clause R)) (v : Told) : Type 0 where
  pub when : (r : R) → FirstOf passes refuses l (refuses r) → v ≡ tells r
  pub only : (r : R) → v ≡ tells r → FirstOf passes refuses l (refuses r)

-- of 01's own refusals, which tell their number alone
abbrev pub Refuses : Refusals → Told → Type 0
Refuses = RefusesOf {A = Result Unit Refusal} (Ok tt) Err refused
