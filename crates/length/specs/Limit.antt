-- What a typed length means in whole centimetres.
-- A binary64 figure is `Float` of the library's Float.Ieee: `nan`, `inf s`, or `fin s m e`, whose exact value is the whole number m, below zero where s is true, times 2 ^ e;
-- and 2 ^ e, a power of two or one over it, is the quotient `up e / down e`. Which figure 64 bits stand for is `of_bits binary64` of the same.
use Rattle.std.specs.Prelude.{◌≡◌, Bool, true, false, cond, ℕ, zero, suc, ◌*◌, ◌/◌, ◌<◌, leb, ℤ, Float, Some, None, Option}
use Rattle.std.specs.Float.{nan, inf, fin}
use Rattle.std.specs.Float.Ieee.{up, down}
use Rattle.length.specs.declared.Length.{Length}
use Rattle.length.specs.declared.Length.TheVariants.{Metres, Feet, Centimetres, InternationalFeet}

-- a typed length: a figure, and how many centimetres go to its unit, num / den
pub record Typed : Type 0 where
  pub figure : Float
  pub num : ℕ
  pub den : ℕ

-- a length limit is a figure in metres, feet, centimetres or international feet: 100 to a metre; a foot is a survey foot, 1200 / 3937 of a metre;
-- 30.48 to an international foot
abbrev pub typed : Length → Typed
typed (Metres v) = record { figure = v; num = 100; den = 1 }
typed (Feet v) = record { figure = v; num = 1200 * 100; den = 3937 }
typed (Centimetres v) = record { figure = v; num = 1; den = 1 }
typed (InternationalFeet v) = record { figure = v; num = 3048; den = 100 }

-- the exact value m * 2 ^ e turned to centimetres and rounded down once: the whole part of a quotient of two whole numbers
abbrev pub rounded_down : ℕ → ℤ → ℕ → ℕ → ℕ
rounded_down m e num den = m * up e * num / (down e * den)

-- the most centimetres of a usable limit; the code's MOST_LIMIT
abbrev pub most_limit : ℕ
most_limit = 200000

-- unusable when above 200,000 after rounding down
unfoldable pub capped : ℕ → Option ℕ
capped c = cond (leb c most_limit) (Some c) None

-- the limit that a figure says, in a unit of num / den centimetres
unfoldable pub reading : Float → ℕ → ℕ → Option ℕ
unfolding capped
-- unusable when not finite
reading nan num den = None
reading (inf s) num den = None
-- minus zero is zero; else unusable when below zero
reading (fin true zero e) num den = Some 0
reading (fin true (suc m) e) num den = None
reading (fin false m e) num den = capped (rounded_down m e num den)

-- the limit that a typed length says
unfoldable pub limit_of : Length → Option ℕ
unfolding reading
limit_of l = reading (typed l).figure (typed l).num (typed l).den

-- the same as a statement: unusable when not finite, below zero, or above 200,000 after rounding down
pub data Unfit (t : Typed) : Type 0 where
  no_number : t.figure ≡ nan → Unfit t
  infinite : {s : Bool} → t.figure ≡ inf s → Unfit t
  below_zero_lem : {m : ℕ} {e : ℤ} → t.figure ≡ fin true m e → 0 < m → Unfit t
  above : {m : ℕ} {e : ℤ} → t.figure ≡ fin false m e → most_limit < rounded_down m e t.num t.den → Unfit t
