-- Two refusals have two numbers, and none has the number of what is done: so what is told tells the answer.
use mathlib.Core.Path.{◌≡◌, refl, sym, ◌∙◌, ap}
use mathlib.Core.List.{List, [], ◌∷◌}
use Prim.Native.Nat.{ℕ, ◌-◌, ◌<◌}
use native.Mathlib.Omega.{arith}
use lib.IntN.{ℤ, pos, nat_abs}
use lib.ListN.{length, get_or}
use Rattle.std.specs.Prelude.{Ok, Err, Result}
use Rattle.refusal.specs.declared.Refusal.{Refusal}
use Rattle.refusal.specs.declared.Refusal.TheVariants.{LimitUnusable, CountsOutside, RoomShort, CoordinateOutOfRange, NumberNotBelow, NumberTwice, EdgeTwice, ReverseMissing, CornerUnused, RingsMany, NotConnected, SheetForm, RecordFails}
use Rattle.refusal.specs.Number.{number}
use Rattle.refusal.specs.Told.{Told, done, refused, stopped_as}
use Rattle.refusal.specs.Outcome.{outcome}

-- the refusals in the order of their numbers, from 1 on
in_order : List Refusal
in_order =
    LimitUnusable
    ∷ CountsOutside
    ∷ RoomShort
    ∷ CoordinateOutOfRange
    ∷ NumberNotBelow
    ∷ NumberTwice
    ∷ EdgeTwice
    ∷ ReverseMissing
    ∷ CornerUnused
    ∷ RingsMany
    ∷ NotConnected
    ∷ SheetForm
    ∷ RecordFails
    ∷ []

-- a number is above 0 and tells its refusal
numbered : (r : Refusal) → (0 < number r) × (get_or in_order (number r - 1) LimitUnusable ≡ r)
unfolding in_order
numbered LimitUnusable = (omega arith, refl)
numbered CountsOutside = (omega arith, refl)
numbered RoomShort = (omega arith, refl)
numbered CoordinateOutOfRange = (omega arith, refl)
numbered NumberNotBelow = (omega arith, refl)
numbered NumberTwice = (omega arith, refl)
numbered EdgeTwice = (omega arith, refl)
numbered ReverseMissing = (omega arith, refl)
numbered CornerUnused = (omega arith, refl)
numbered RingsMany = (omega arith, refl)
numbered NotConnected = (omega arith, refl)
numbered SheetForm = (omega arith, refl)
numbered RecordFails = (omega arith, refl)

-- two refusals have two numbers
pub number_one : {r s : Refusal} → number r ≡ number s → r ≡ s
number_one {r} {s} e = sym (numbered r).1 ∙ ap (λ (n : ℕ). get_or in_order (n - 1) LimitUnusable) e ∙ (numbered s).1

pub tells_refusal : {r s : Refusal} → refused r ≡ refused s → r ≡ s
tells_refusal e = number_one (ap (λ (t : Told). t.number) e)

-- what is refused is not done
pub refused_done : (r : Refusal) {vs : List ℤ} → refused r ≡ done vs → ⊥
refused_done r e = let h = (numbered r).0 in let k = ap (λ (t : Told). t.number) e in omega arith

-- what passes is done, and what is refused tells its number
pub passing : (vs : List ℤ) {v : Result Unit Refusal} → v ≡ Ok tt → done vs ≡ outcome v vs
passing vs e = rw e

pub refusing : (vs : List ℤ) {v : Result Unit Refusal} {r : Refusal} → v ≡ Err r → refused r ≡ outcome v vs
refusing vs e = rw e

-- one verdict and the same values have one outcome
pub outcome_one : (vs : List ℤ) {v w : Result Unit Refusal} {a b : Told} → v ≡ w → a ≡ outcome v vs → b ≡ outcome w vs → a ≡ b
outcome_one vs e p q = p ∙ ap (λ (v : Result Unit Refusal). outcome v vs) e ∙ sym q

-- the count that an answer carries
unfoldable pub counted : Told → ℕ
counted v = nat_abs (get_or v.values 0 (pos 0))

-- what carries a count is no refusal's number alone
pub stopped_other : (n k : ℕ) (r : Refusal) → ¬ (stopped_as n k ≡ refused r)
stopped_other n k r p = let e = ap (λ (v : Told). length v.values) p in omega arith
