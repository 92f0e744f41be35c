-- The rounding at work on sums round a half.
use mathlib.Core.Path.{◌≡◌, refl}
use lib.IntN.{pos, negsuc}
use Rattle.wide.specs.Rounding.{figure, change}

-- just below a half, at it, and the same below zero
halves : (figure (pos 2999999) ≡ pos 0) × (figure (pos 3000000) ≡ pos 1) × (figure (negsuc 2999998) ≡ pos 0) × (figure (negsuc 2999999) ≡ negsuc 0)
unfolding figure
halves = (refl, refl, refl, refl)

-- both figures are 0, the change is 1: the exact sums are what is rounded
once : (figure (negsuc 1999999) ≡ pos 0) × (figure (pos 2000000) ≡ pos 0) × (change (negsuc 1999999) (pos 2000000) ≡ pos 1)
unfolding figure
once = (refl, refl, refl)
