-- The limit: the comparison tells, and a usable limit's square fits.
use mathlib.Core.Path.{◌≡◌}
use mathlib.Core.List.{List}
use Prim.Native.Nat.{ℕ, ◌*◌, ◌≤◌}
use native.Mathlib.Nat.{mul-le-mul}
use native.Mathlib.Omega.{arith}
use borrow.Author.Tests.{leb-true, leb-false}
use lib.Dec.{leb}
use lib.IntN.{ℤ}
use Rattle.length.specs.Limit.{most_limit}
use Rattle.refusal.specs.InnerTells.{Tells}
use Rattle.distance.specs.Corners.{squared_distance_lem, Short}

pub limit_tells : (xs : List ℤ) (l a b : ℕ) {d : ℕ} → d ≡ squared_distance_lem xs a b → Tells (leb d (l * l)) (Short xs l a b) (¬ Short xs l a b)
limit_tells xs l a b {d} q = rw q (record {
  when_true = λ h. leb-true (squared_distance_lem xs a b) (l * l) h;
  when_false = λ h k. let z = leb-false (squared_distance_lem xs a b) (l * l) h in omega arith;
})

pub square_small : {l : ℕ} → l ≤ most_limit → l * l ≤ most_limit * most_limit
square_small h = mul-le-mul h h
