-- What an order asks of an edge, and when its limit is unusable.
use Rattle.std.specs.Prelude.{Some, None, Option, Ok, Err, ℕ, Result}
use Rattle.refusal.specs.declared.Refusal.TheVariants.{LimitUnusable}
use Rattle.refusal.specs.declared.Refusal.{Refusal}
use Rattle.length.specs.declared.Order.{Order}
use Rattle.length.specs.declared.Order.TheVariants.{NoLimit, Limit}
use Rattle.length.specs.Limit.{limit_of}

-- what an order asks: a limit in whole centimetres, or none; or the refusal of a limit that is unusable
abbrev pub Asked : Type 0
Asked = Result (Option ℕ) Refusal

-- a reading's whole centimetres are the limit
abbrev pub asked_by : Option ℕ → Asked
asked_by (Some c) = Ok (Some c)
asked_by None = Err LimitUnusable

-- a thinning order has no limit, or a length limit
abbrev pub asked : Order → Asked
asked NoLimit = Ok None
asked (Limit l) = asked_by (limit_of l)
