-- What a check comes to, with the values that a call gives when it is done.
use Rattle.std.specs.Prelude.{List, ℤ, Ok, Err, Result}
use Rattle.refusal.specs.declared.Refusal.{Refusal}
use Rattle.refusal.specs.Told.{Told, done, refused}

-- the first that holds is the answer, and it is given only then: else 0 and the values
abbrev pub outcome : Result Unit Refusal → List ℤ → Told
outcome (Ok tt) vs = done vs
outcome (Err r) vs = refused r
