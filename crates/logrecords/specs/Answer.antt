-- What the answers tell: the number and the values of each case.
use Rattle.std.specs.Prelude.{[], ◌∷◌, map, pos, replicate, Result, Ok, Err}
use Rattle.refusal.specs.Told.{Told, done, refused}
use Rattle.refusal.specs.declared.Refusal.{Refusal}
use Rattle.refusal.specs.declared.Refusal.TheVariants.{SheetForm}
use Rattle.record.specs.Layout.{width, numbers}
use Rattle.record.specs.Meant.{meant}
use Rattle.heading.specs.declared.Heading.{Heading}
use Rattle.logrecords.specs.declared.Next.{Next}
use Rattle.logrecords.specs.declared.Next.TheVariants.{Found, End, Bad}

abbrev pub told_opened : Result Heading Refusal → Told
-- 0, the corner count, the row count and the place after the first line
told_opened (Ok h) = done (pos h.corners ∷ pos h.rows ∷ pos h.after.at ∷ [])
-- the refusal's number
told_opened (Err r) = refused r

abbrev pub told_next : Next → Told
-- 0, 1 for a record, the place after it and its numbers
told_next (Found r c) = done (pos 1 ∷ pos c.at ∷ map pos (numbers (meant r)))
-- 0, 0 for the end, the place as given, and zeros
told_next (End c) = done (pos 0 ∷ pos c.at ∷ replicate width (pos 0))
-- 12
told_next Bad = refused SheetForm
