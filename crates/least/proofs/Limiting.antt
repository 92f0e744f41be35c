-- The limit, by its two cases.
use mathlib.Core.Path.{◌≡◌}
use mathlib.Core.Bool.{Bool}
use mathlib.Core.List.{List}
use Prim.Native.Nat.{ℕ, ◌≤◌, ◌<◌}
use native.Mathlib.Omega.{arith}
use lib.IntN.{ℤ}
use Rattle.std.specs.Prelude.{Some, None, Option}
use Rattle.corners.specs.Skin.{InRange}
use Rattle.length.specs.Limit.{most_limit}
use Rattle.distance.specs.Corners.{Short}
use Rattle.distance.specs.Inner.{Has}
use Rattle.refusal.specs.InnerTells.{Tells}
use Rattle.least.specs.Limited.{Allowed}
use Rattle.least.specs.Inner.{Measurable, MeasurableAt}

pub free_allowed : (bound : Option ℕ) (xs : List ℤ) (a b : ℕ) → bound ≡ None → Allowed bound xs a b
free_allowed bound xs a b e = rw e tt

pub within_at : (bound : Option ℕ) (xs : List ℤ) (v : ℕ) {l : ℕ} → bound ≡ Some l → MeasurableAt bound xs v → (l ≤ most_limit) × Has xs v × InRange xs
within_at bound xs v e h = rw e at h

-- what tells of the length tells of the limit
pub within_tells : (bound : Option ℕ) (xs : List ℤ) (a b : ℕ) {l : ℕ} {r : Bool} → bound ≡ Some l → Tells r (Short xs l a b) (¬ Short xs l a b) → Tells r (Allowed bound xs a b) (¬ Allowed bound xs a b)
within_tells bound xs a b e t = rw e t

-- all corners below n are measured
pub measured_at : (bound : Option ℕ) (n : ℕ) (xs : List ℤ) (v : ℕ) → v < n → Measurable bound n xs → MeasurableAt bound xs v
measured_at None n xs v h m = tt
measured_at (Some l) n xs v h m = let c = m.corners in (m.usable, omega arith, m.in_range)
