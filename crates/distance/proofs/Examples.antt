-- Squared distances on a corner of three sides, a metre each.
use mathlib.Core.Path.{◌≡◌, refl}
use mathlib.Core.List.{List, [], ◌∷◌}
use lib.IntN.{ℤ, pos}
use Rattle.distance.specs.Corners.{squared_distance_lem}

unfoldable pub z : ℤ
z = pos 0

unfoldable pub m : ℤ
m = pos 100

unfoldable pub axes : List ℤ
axes = z ∷ z ∷ z ∷ m ∷ z ∷ z ∷ z ∷ m ∷ z ∷ z ∷ z ∷ m ∷ []

distances : (squared_distance_lem axes 0 1 ≡ 10000) × (squared_distance_lem axes 1 2 ≡ 20000)
unfolding axes z m squared_distance_lem
distances = (refl, refl)
