-- Three squares added.
use native.Mathlib.Omega.{arith}
use Rattle.distance.specs.Corners.{squared_distance_lem}
use Rattle.distance.proofs.squared_distance.Goals as goal

pub returns : goal.returns
unfolding squared_distance_lem
returns c = omega (arith, c.squared_gap.ensures.0, c.squared_gap-2.ensures.0, c.squared_gap-3.ensures.0)
