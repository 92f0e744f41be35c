-- The one rounding: an exact sum as a figure in cubic metres.
use Rattle.std.specs.Prelude.{◌≡◌, ℕ, suc, ◌+◌, ◌*◌, ◌/◌, ◌≤◌, ◌<◌, ℤ, pos, negsuc, neg_ℤ, ◌-ℤ◌, ◌*ℤ◌, nat_abs}

-- six times the cubic centimetres of a cubic metre. The const of src/lib.rt is the same number.
abbrev pub divisor : ℕ
divisor = 6000000

abbrev pub half : ℕ
half = divisor / 2

-- a size over the divisor, to the nearest whole, a half going up
abbrev pub to_nearest : ℕ → ℕ
to_nearest n = (n + half) / divisor

-- the figure in cubic metres is the sum over 6,000,000, to the nearest whole, a half going away from zero: the sum's size is rounded, and
-- its sign put back
unfoldable pub figure : ℤ → ℤ
figure (pos n) = pos (to_nearest n)
figure (negsuc n) = neg_ℤ (pos (to_nearest (suc n)))

-- a change is the later exact sum less the earlier, rounded once the same way
abbrev pub change : ℤ → ℤ → ℤ
change earlier later = figure (later -ℤ earlier)

-- the figure f is within half a cubic metre of exact: of the sum s over the divisor
abbrev pub WithinHalf : ℤ → ℤ → Type 0
WithinHalf s f = 2 * nat_abs (pos divisor *ℤ f -ℤ s) ≤ divisor

-- the same rounding without a computation: the figure is within half, and where it is just half off, it is the one farther from zero
pub record Nearest (s f : ℤ) : Type 0 where
  pub near : WithinHalf s f
  pub away : 2 * nat_abs (pos divisor *ℤ f -ℤ s) ≡ divisor → nat_abs s < divisor * nat_abs f
