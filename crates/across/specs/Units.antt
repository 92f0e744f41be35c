-- The order that a unit's number and a figure stand for.
use Rattle.std.specs.Prelude.{cond, ℕ, eqb, Float}
use Rattle.std.specs.Float.{nan}
use Rattle.length.specs.declared.Length.{Length}
use Rattle.length.specs.declared.Length.TheVariants.{Metres, Feet, Centimetres, InternationalFeet}
use Rattle.length.specs.declared.Order.{Order}
use Rattle.length.specs.declared.Order.TheVariants.{NoLimit, Limit}

-- 1 metres, 2 feet, 3 centimetres, 4 international feet; any other unit is a figure that is no number, so that its limit is unusable
unfoldable pub length_of_lem : ℕ → Float → Length
length_of_lem u v = cond (eqb u 1) (Metres v) (cond (eqb u 2) (Feet v) (cond (eqb u 3) (Centimetres v) (cond (eqb u 4) (InternationalFeet v) (Centimetres nan))))

-- 0 no limit, else a length limit
unfoldable pub order_of_lem : ℕ → Float → Order
order_of_lem u v = cond (eqb u 0) NoLimit (Limit (length_of_lem u v))
