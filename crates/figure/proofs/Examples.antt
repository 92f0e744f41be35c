-- The definitions at work on a corner of three sides, a metre each.
use mathlib.Core.Path.{◌≡◌, refl}
use mathlib.Core.List.{[], ◌∷◌}
use lib.IntN.{pos, negsuc}
use Rattle.surface.specs.Rows.{row}
use Rattle.distance.proofs.Examples.{z, m, axes}
use Rattle.figure.specs.Sum.{minor, determinant, sixfold}

-- a row seen from one side counts up, turned over it counts down
sides : (determinant axes 1 2 3 ≡ pos 1000000) × (determinant axes 1 3 2 ≡ negsuc 999999) × (sixfold axes (row 1 2 3 ∷ row 2 3 1 ∷ row 1 3 2 ∷ []) ≡ pos 1000000)
unfolding axes z m minor determinant sixfold
sides = (refl, refl, refl)
