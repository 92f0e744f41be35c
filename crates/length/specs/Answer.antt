-- What the limit reader's answer tells: 01's number and the values of each case.
use Rattle.std.specs.Prelude.{ℕ, [], ◌∷◌, pos, Some, None, Option}
use Rattle.refusal.specs.Told.{Told, done, refused}
use Rattle.refusal.specs.declared.Refusal.TheVariants.{LimitUnusable}

abbrev pub told : Option ℕ → Told
-- 0 and the whole centimetres
told (Some c) = done (pos c ∷ [])
-- 1: limit unusable
told None = refused LimitUnusable
