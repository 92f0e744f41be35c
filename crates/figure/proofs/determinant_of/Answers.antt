-- The three products and their two sums, each as the machine has it, named once.
use Prim.Native.Nat.{◌*◌}
use mir.Syntax.{w64}
use Rattle.corners.specs.Limits.{most_coordinate}
use Rattle.ints.proofs.Machine.{Known, known, told, tells, fits, kept, times, plus}
use Rattle.figure.specs.Sum.{determinant}
use Rattle.figure.specs.Inner.{minor_bound, row_bound}
use native.Mathlib.Omega.{arith}
use Rattle.figure.proofs.determinant_of.Goals.{After-minor_of, After-minor_of-2, After-minor_of-3}
use Rattle.figure.proofs.determinant_of.Goals as goal

abbrev first : After-minor_of → Known (most_coordinate * minor_bound)
first c = known (times (told w64 c.coordinate_of.type_inv c.coordinate_of.ensures) (told w64 c.minor_of.type_inv c.minor_of.ensures))

abbrev second : After-minor_of-2 → Known (most_coordinate * minor_bound)
second c = known (times (told w64 c.coordinate_of-2.type_inv c.coordinate_of-2.ensures) (told w64 c.minor_of-2.type_inv c.minor_of-2.ensures))

abbrev third : After-minor_of-3 → Known (most_coordinate * minor_bound)
third c = known (times (told w64 c.coordinate_of-3.type_inv c.coordinate_of-3.ensures) (told w64 c.minor_of-3.type_inv c.minor_of-3.ensures))

abbrev two : After-minor_of-2 → Known (2 * (most_coordinate * minor_bound))
two c = known (plus (kept w64 (first c.before.before).is (omega arith)) (kept w64 (second c).is (omega arith)))

abbrev three : After-minor_of-3 → Known row_bound
three c = known (plus (kept w64 (two c.before.before).is (omega arith)) (kept w64 (third c).is (omega arith)))

pub overflow_mul-result : goal.overflow_mul-result
overflow_mul-result c = fits w64 (first c).is (omega arith)

pub overflow_mul-result-2 : goal.overflow_mul-result-2
overflow_mul-result-2 c = fits w64 (second c).is (omega arith)

pub overflow_add-result : goal.overflow_add-result
overflow_add-result c = fits w64 (two c).is (omega arith)

pub overflow_mul-result-3 : goal.overflow_mul-result-3
overflow_mul-result-3 c = fits w64 (third c).is (omega arith)

pub overflow_add-result-2 : goal.overflow_add-result-2
overflow_add-result-2 c = fits w64 (three c).is (omega arith)

pub returns : goal.returns
unfolding determinant
returns c = tells (kept w64 (three c).is (omega arith))
