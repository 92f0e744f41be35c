-- 01's figures, those of 02's feet, and figures at the edges, computed.
use mathlib.Core.Path.{◌≡◌, refl}
use mathlib.Core.Bool.{true, false}
use Prim.Native.Nat.{ℕ, ◌+◌, ◌-◌, ◌*◌, ◌^◌, ◌<◌}
use native.Mathlib.Omega.{arith}
use lib.IntN.{pos, negsuc}
use lib.Ieee.{Float, nan, inf, fin, binary64, of_bits, round, mul, div}
use Rattle.std.specs.Prelude.{Some, None}
use Rattle.length.specs.declared.Length.TheVariants.{Metres, Feet, Centimetres, InternationalFeet}
use Rattle.length.specs.Limit.{rounded_down, capped, reading, limit_of}

-- the binary64 nearest to a / b
abbrev pub nearest : ℕ → ℕ → Float
nearest a b = round binary64 false a b

-- ---- 01's five: 1.5 m, 1.375 m, 4.75 ft, in survey feet now, and the figures nearest to 0.29 m and 0.3 m, which lie below them

pub metres_150 : limit_of (Metres (nearest 15 10)) ≡ Some 150
unfolding limit_of reading capped round
metres_150 = refl

pub metres_137 : limit_of (Metres (nearest 1375 1000)) ≡ Some 137
unfolding limit_of reading capped round
metres_137 = refl

pub feet_144 : limit_of (Feet (nearest 475 100)) ≡ Some 144
unfolding limit_of reading capped round
feet_144 = refl

pub metres_28 : limit_of (Metres (nearest 29 100)) ≡ Some 28
unfolding limit_of reading capped round
metres_28 = refl

pub below_29 : (nearest 29 100 ≡ fin false 5224175567749775 (negsuc 53)) × (5224175567749775 * 100 < 29 * 2 ^ 54)
unfolding round
below_29 = (refl, omega arith)

pub metres_29 : limit_of (Metres (nearest 3 10)) ≡ Some 29
unfolding limit_of reading capped round
metres_29 = refl

pub below_3 : (nearest 3 10 ≡ fin false 5404319552844595 (negsuc 53)) × (5404319552844595 * 10 < 3 * 2 ^ 54)
unfolding round
below_3 = (refl, omega arith)

-- the old tool's slip: multiplied as a float, 0.3 times 100 comes out as 30, which is 15 * 2 ^ 1
pub slip_30 : mul binary64 (nearest 3 10) (nearest 100 1) ≡ fin false 15 (pos 1)
unfolding mul round
slip_30 = refl

-- ---- 02's feet: 4.75 ft is 144 in both, and 6,561.25 ft parts them

pub international_144 : limit_of (InternationalFeet (nearest 475 100)) ≡ Some 144
unfolding limit_of reading capped round
international_144 = refl

pub feet_199987 : limit_of (Feet (nearest 656125 100)) ≡ Some 199987
unfolding limit_of reading capped round
feet_199987 = refl

pub international_199986 : limit_of (InternationalFeet (nearest 656125 100)) ≡ Some 199986
unfolding limit_of reading capped round
international_199986 = refl

-- where 1 moves: 6,561.7 survey feet are 200,001 cm and unusable, and as many international feet are not
pub feet_200001 : (nearest 65617 10 ≡ fin false 7214665447977779 (negsuc 39)) × (rounded_down 7214665447977779 (negsuc 39) (1200 * 100) 3937 ≡ 200001)
unfolding round
feet_200001 = (refl, refl)

pub feet_unusable : limit_of (Feet (nearest 65617 10)) ≡ None
unfolding limit_of reading capped round
feet_unusable = refl

pub international_200000 : limit_of (InternationalFeet (nearest 65617 10)) ≡ Some 200000
unfolding limit_of reading capped round
international_200000 = refl

-- the bits of the last figure usable in survey feet
abbrev pub feet_last : ℕ
feet_last = 4663936679571827038

pub last_usable : limit_of (Feet (of_bits binary64 feet_last)) ≡ Some 200000
unfolding limit_of reading capped of_bits
last_usable = refl

pub next_unusable : limit_of (Feet (of_bits binary64 (feet_last + 1))) ≡ None
unfolding limit_of reading capped of_bits
next_unusable = refl

-- 3,937 ft are 1,200 m, and the figure nearest to 3.937 ft lies below it
pub feet_120000 : limit_of (Feet (nearest 3937 1)) ≡ Some 120000
unfolding limit_of reading capped round
feet_120000 = refl

pub feet_119 : limit_of (Feet (nearest 3937 1000)) ≡ Some 119
unfolding limit_of reading capped round
feet_119 = refl

pub below_3937 : (nearest 3937 1000 ≡ fin false 8865335866478821 (negsuc 50)) × (8865335866478821 * 1000 < 3937 * 2 ^ 51)
unfolding round
below_3937 = (refl, omega arith)

-- the old tool's slip on feet, multiplied as a float: 3.937 times 1200, over 3937, times 100, comes out as 120, which is 15 * 2 ^ 3
abbrev pub slip : Float → Float
slip v = mul binary64 (div binary64 (mul binary64 v (nearest 1200 1)) (nearest 3937 1)) (nearest 100 1)

pub slip_120 : slip (nearest 3937 1000) ≡ fin false 15 (pos 3)
unfolding mul div round
slip_120 = refl

-- ---- the edges

pub minus_zero : limit_of (Metres (of_bits binary64 (2 ^ 63))) ≡ Some 0
unfolding limit_of reading of_bits
minus_zero = refl

pub least_below_zero : limit_of (Centimetres (of_bits binary64 (2 ^ 63 + 1))) ≡ None
unfolding limit_of reading of_bits
least_below_zero = refl

pub most_subnormal : limit_of (Metres (of_bits binary64 (2 ^ 52 - 1))) ≡ Some 0
unfolding limit_of reading capped of_bits
most_subnormal = refl

pub metres_2000 : limit_of (Metres (nearest 2000 1)) ≡ Some 200000
unfolding limit_of reading capped round
metres_2000 = refl

-- 200,000.999 cm and 200,001 cm
pub rounded_first : limit_of (Centimetres (nearest 200000999 1000)) ≡ Some 200000
unfolding limit_of reading capped round
rounded_first = refl

pub one_above : limit_of (Centimetres (nearest 200001 1)) ≡ None
unfolding limit_of reading capped round
one_above = refl

pub infinity : limit_of (Feet (inf false)) ≡ None
unfolding limit_of reading
infinity = refl

pub minus_infinity : limit_of (Feet (inf true)) ≡ None
unfolding limit_of reading
minus_infinity = refl

pub not_a_number : limit_of (Metres nan) ≡ None
unfolding limit_of reading
not_a_number = refl
