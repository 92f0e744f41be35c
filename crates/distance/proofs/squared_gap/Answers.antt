-- The difference and its square, each as the machine has it, named once; a square is never below zero.
use Prim.Native.Nat.{◌*◌}
use native.Mathlib.Omega.{arith}
use mir.Syntax.{w64}
use Rattle.ints.proofs.Machine.{Known, known, told, fits, kept, less, squared, unsigned, unsigned_fits, within}
use Rattle.distance.specs.Inner.{gap_bound}
use Rattle.distance.proofs.squared_gap.Goals.{After-coordinate_of-2}
use Rattle.distance.proofs.squared_gap.Goals as goal

abbrev difference : After-coordinate_of-2 → Known gap_bound
difference c = known (less (told w64 c.coordinate_of.type_inv c.coordinate_of.ensures) (told w64 c.coordinate_of-2.type_inv c.coordinate_of-2.ensures))

abbrev square : After-coordinate_of-2 → Known (gap_bound * gap_bound)
square c = known (squared (kept w64 (difference c).is (omega arith)))

pub overflow_sub-d : goal.overflow_sub-d
overflow_sub-d c = fits w64 (difference c).is (omega arith)

pub overflow_mul-result : goal.overflow_mul-result
overflow_mul-result c = fits w64 (square c).is (omega arith)

pub overflow_cast-result : goal.overflow_cast-result
overflow_cast-result c = unsigned_fits w64 (kept w64 (square c).is (omega arith)) (omega arith)

pub returns : goal.returns
returns c = let s = kept w64 (square c).is (omega arith) in (unsigned s, within s)
