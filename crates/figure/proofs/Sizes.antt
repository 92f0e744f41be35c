-- How large a sum and a change can be, by the names of the limits: all fit a machine number.
use mathlib.Core.Path.{◌≡◌}
use mathlib.Core.List.{List, [], ◌∷◌}
use Prim.Native.Nat.{ℕ, ◌*◌, ◌^◌, ◌≤◌, ◌<◌}
use native.Mathlib.Omega.{arith}
use lib.IntN.{ℤ, ◌-ℤ◌, nat_abs}
use lib.ListN.{length}
use mir.Syntax.{w64}
use mir.Val.{SFits}
use Rattle.surface.specs.Rows.{Row, row}
use Rattle.surface.specs.Stage.{Stage}
use Rattle.corners.specs.Limits.{most_coordinate}
use Rattle.corners.specs.Skin.{InRange}
use Rattle.ints.proofs.Ints.{abs_add, abs_minus}
use Rattle.ints.proofs.Machine.{Is, times, plus, less, sfits_abs}
use Rattle.wide.specs.declared.Wide.{Wide}
use Rattle.wide.specs.Wide.{Exact}
use Rattle.wide.specs.Inner.{most_wide, Fits}
use Rattle.wide.proofs.Laws.{fits_within}
use Rattle.distance.specs.Corners.{coordinate}
use Rattle.distance.proofs.Ranges.{in_range_coordinate}
use Rattle.figure.specs.Sum.{minor, determinant, sixfold}
use Rattle.figure.specs.Inner.{WithCoordinates, minor_bound, row_bound, sum_bound}

-- a checked stage with its coordinates
pub stage_coordinates : {n : ℕ} {T : List Row} {xs : List ℤ} → Stage n T → length xs ≡ 3 * n → InRange xs → WithCoordinates T xs
stage_coordinates s e r = record { most = s.most; corners = λ f. omega (arith, s.below f, e); in_range = r }

module _ (xs : List ℤ) (r : InRange xs) where
  at : (v j : ℕ) → Is most_coordinate (coordinate xs v j) (coordinate xs v j)
  at v j = in_range_coordinate xs r v j

  of_two : (b c j k : ℕ) → Is minor_bound (minor xs b c j k) (minor xs b c j k)
  unfolding minor
  of_two b c j k = less (times (at b j) (at c k)) (times (at b k) (at c j))

  pub determinant_size : (a b c : ℕ) → nat_abs (determinant xs a b c) ≤ row_bound
  unfolding determinant
  determinant_size a b c = (plus (plus (times (at a 0) (of_two b c 1 2)) (times (at a 1) (of_two b c 2 0))) (times (at a 2) (of_two b c 0 1))).size

  pub sixfold_size : (T : List Row) → nat_abs (sixfold xs T) ≤ row_bound * length T
  unfolding sixfold
  sixfold_size [] = omega arith
  sixfold_size (row a b c ∷ T) = omega (arith, abs_add (determinant xs a b c) (sixfold xs T), determinant_size a b c, sixfold_size T)

-- ---- what fits an i64: this fails first where the limits grow

pub sums_fit : sum_bound < 2 ^ 63
sums_fit = omega arith

module _ {T : List Row} {xs : List ℤ} (c : WithCoordinates T xs) where
  pub sum_size : nat_abs (sixfold xs T) ≤ sum_bound
  sum_size = omega (arith, sixfold_size xs c.in_range T, c.most)

  pub sum_fits : SFits w64 (sixfold xs T)
  sum_fits = sfits_abs w64 _ (omega (arith, sum_size, sums_fit))

-- ---- what fits an exact sum: 32 sums of as many rows as 16 tables have

pub sums_wide : 32 * (16 * sum_bound) ≤ most_wide
sums_wide = omega arith

pub sum_wide : {T : List Row} {xs : List ℤ} {w : Wide} → WithCoordinates T xs → Exact (sixfold xs T) w → Fits w
sum_wide c e = fits_within e (omega (arith, sum_size c, sums_wide))

pub change_wide : {T T' : List Row} {xs : List ℤ} {w : Wide} → WithCoordinates T xs → WithCoordinates T' xs → Exact (sixfold xs T' -ℤ sixfold xs T) w → Fits w
change_wide {T} {T'} {xs} c c' e = fits_within e (omega (arith, abs_minus (sixfold xs T') (sixfold xs T), sum_size c, sum_size c', sums_wide))
