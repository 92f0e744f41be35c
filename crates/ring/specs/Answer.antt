-- What the answer tells: 0 and the number; there is no refusal, and past the table's end there is nothing.
use Rattle.std.specs.Prelude.{[], ◌∷◌, ℕ, pos, Option, Some, None}
use Rattle.refusal.specs.Told.{Told, done}

abbrev pub told : Option ℕ → Told
told (Some v) = done (pos v ∷ [])
told None = done []
