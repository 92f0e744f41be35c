-- A test's answer: how it is given.
use mathlib.Core.Path.{◌≡◌, refl}
use mathlib.Core.Bool.{Bool, true, false}
use Prim.Native.Nat.{ℕ}
use native.Mathlib.Omega.{arith}
use Rattle.std.specs.Bool.{MatchBool}
use Rattle.refusal.specs.InnerTells.{Tells}

pub true_false : {r : Bool} → r ≡ true → r ≡ false → ⊥
true_false p q = let z : ◌≡◌ {A = ℕ} 0 1 = cc in omega arith

pub tells_true : {P Q : Type 0} → P → Tells true P Q
tells_true p = record { when_true = λ e. p; when_false = λ e. absurd (true_false refl e) }

pub tells_false : {P Q : Type 0} → Q → Tells false P Q
tells_false q = record { when_true = λ e. absurd (true_false e refl); when_false = λ e. q }

-- from what std's method says of its answer
pub tells_match : {Y N P Q : Type 0} (r : Bool) → MatchBool r Y N → (Y → P) → (N → Q) → Tells r P Q
tells_match true h p q = tells_true (p h)
tells_match false h p q = tells_false (q h)
