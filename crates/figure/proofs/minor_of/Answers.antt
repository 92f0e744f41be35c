-- The two products and their difference, each as the machine has it, named once.
use Prim.Native.Nat.{◌*◌}
use native.Mathlib.Omega.{arith}
use mir.Syntax.{w64}
use Rattle.corners.specs.Limits.{most_coordinate}
use Rattle.ints.proofs.Machine.{Known, known, told, tells, fits, kept, times, less}
use Rattle.figure.specs.Sum.{minor}
use Rattle.figure.specs.Inner.{minor_bound}
use Rattle.figure.proofs.minor_of.Goals.{After-coordinate_of-2, After-coordinate_of-4}
use Rattle.figure.proofs.minor_of.Goals as goal

abbrev first : After-coordinate_of-2 → Known (most_coordinate * most_coordinate)
first c = known (times (told w64 c.coordinate_of.type_inv c.coordinate_of.ensures) (told w64 c.coordinate_of-2.type_inv c.coordinate_of-2.ensures))

abbrev second : After-coordinate_of-4 → Known (most_coordinate * most_coordinate)
second c = known (times (told w64 c.coordinate_of-3.type_inv c.coordinate_of-3.ensures) (told w64 c.coordinate_of-4.type_inv c.coordinate_of-4.ensures))

abbrev difference : After-coordinate_of-4 → Known minor_bound
difference c = known (less (kept w64 (first c.before.before).is (omega arith)) (kept w64 (second c).is (omega arith)))

pub overflow_mul-result : goal.overflow_mul-result
overflow_mul-result c = fits w64 (first c).is (omega arith)

pub overflow_mul-result-2 : goal.overflow_mul-result-2
overflow_mul-result-2 c = fits w64 (second c).is (omega arith)

pub overflow_sub-result : goal.overflow_sub-result
overflow_sub-result c = fits w64 (difference c).is (omega arith)

pub returns : goal.returns
unfolding minor
returns c = tells (kept w64 (difference c).is (omega arith))
