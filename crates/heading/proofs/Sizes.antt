-- How long numbers of at most six digits are.
use mathlib.Core.List.{List, [], ◌∷◌}
use Prim.Native.Nat.{◌+◌, ◌*◌, ◌≤◌}
use native.Mathlib.Omega.{arith}
use lib.IntN.{ℤ, pos, negsuc, nat_abs}
use lib.ListN.{length, length-append}
use Rattle.text.specs.Decimal.{decimal, signed}
use Rattle.lines.specs.Lines.{fields, FewDigits}
use Rattle.heading.specs.Heading.{most_digits}

pub signed_size : (z : ℤ) → length (signed z) ≤ 1 + length (decimal (nat_abs z))
signed_size (pos n) = omega arith
signed_size (negsuc n) = omega arith

pub fields_size : (zs : List ℤ) → FewDigits most_digits zs → length (fields zs) ≤ length zs * 8
fields_size [] a = omega arith
fields_size (z ∷ zs) a = let h = a.0 in omega (arith, length-append (signed z) (fields zs), signed_size z, fields_size zs a.1)
