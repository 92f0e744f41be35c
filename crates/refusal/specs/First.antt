-- "The first that holds is the answer, and it is given only then." Refusals may be of any type R and verdicts of any type A, which pass or refuse:
-- refusals that stand in an enum of their own have the same lists and the same laws.
use Rattle.std.specs.Prelude.{◌≡◌, ◌⊎◌, List, [], ◌∷◌, Ok, Err, Result}
use Rattle.refusal.specs.declared.Refusal.{Refusal}

-- a line of 01's table: the refusal, and when it is given
pub record Clause (R : Type 0) : Type 1 where
  pub refusal : R
  pub given : Type 0

infix 7 ◌when◌
abbrev pub ◌when◌ : {R : Type 0} → R → Type 0 → Clause R
◌when◌ r P = record { refusal = r; given = P }

-- v is the first refusal of the list that holds, or that none does
unfoldable pub FirstOf : {R A : Type 0} → A → (R → A) → List (Clause R) → A → Type 0
FirstOf passes refuses [] v = v ≡ passes
FirstOf passes refuses (c ∷ l) v = (c.given × (v ≡ refuses c.refusal)) ⊎ ((¬ c.given) × FirstOf passes refuses l v)

-- a list of 01's own refusals, and its verdict
abbrev pub Refusals : Type 1
Refusals = List (Clause Refusal)

abbrev pub First : Refusals → Result Unit Refusal → Type 0
First = FirstOf (Ok tt) Err
