-- An element of the table is in range, so it goes from an i32 to an i64.
use native.Mathlib.Omega.{arith}
use mir.Syntax.{w64}
use Rattle.ints.proofs.Machine.{known, tells, fits, kept}
use Rattle.distance.proofs.Ranges.{element}
use Rattle.distance.proofs.coordinate_of.Goals as goal

pub returns : goal.returns
returns c = tells (kept w64 (known (element c.args.xs.now c.requires.2 c.args.v c.args.j)).is (omega arith))
