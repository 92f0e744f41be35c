-- How large a coordinate of a table in range can be.
use mathlib.Core.Path.{refl}
use mathlib.Core.List.Memᴰ
use mathlib.Core.List.{List, [], ◌∷◌}
use Prim.Native.Nat.{ℕ, zero, suc, ◌+◌, ◌*◌, ◌≤◌}
use native.Mathlib.Omega.{arith}
use lib.IntN.{ℤ, pos, nat_abs}
use lib.ListN.{get_or}
use mir.Syntax.{w32}
use mir.Val.{to_z, of_z}
use Rattle.corners.specs.Limits.{most_coordinate}
use Rattle.corners.specs.Skin.{InRange}
use Rattle.ints.proofs.Machine.{Is, kept}
use Rattle.distance.specs.Corners.{coordinate}

rest_in_range : {z : ℤ} {xs : List ℤ} → InRange (z ∷ xs) → InRange xs
rest_in_range r = record { range = λ m. r.range (Memᴰ.tail m) }

pub in_range_at : (xs : List ℤ) (k : ℕ) → InRange xs → nat_abs (get_or xs k (pos 0)) ≤ most_coordinate
in_range_at [] k r = omega arith
in_range_at (z ∷ xs) zero r = r.range (Memᴰ.head refl)
in_range_at (z ∷ xs) (suc k) r = in_range_at xs k (rest_in_range r)

module _ (xs : List ℤ) (r : InRange xs) where
  pub in_range_coordinate : (v j : ℕ) → Is most_coordinate (coordinate xs v j) (coordinate xs v j)
  in_range_coordinate v j = record { same = refl; size = in_range_at xs (3 * v + j) r }

  -- as it stands in the table, an i32
  pub element : (v j : ℕ) → Is most_coordinate (coordinate xs v j) (to_z w32 (of_z w32 (coordinate xs v j)))
  element v j = kept w32 (in_range_coordinate v j) (omega arith)
