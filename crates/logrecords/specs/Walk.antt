-- Records asked for one by one: each time at the place answered before.
use Rattle.std.specs.Prelude.{◌≡◌, List, [], ◌∷◌, ◌++◌, map, ℕ, ◌*◌, pos, length, replicate}
use Rattle.follow.specs.Leads.{Leads}
use Rattle.surface.specs.Record as surface
use Rattle.refusal.specs.Told.{Told, done, refused_as}
use Rattle.record.specs.Layout.{width, numbers}
use Rattle.lines.specs.Lines.{FewDigits}
use Rattle.lines.specs.Kinds.{record_lines}
use Rattle.heading.specs.Heading.{most_digits, first_line_lem}
use Rattle.logform.specs.LogSheet.{LOG}
use Rattle.logrecords.specs.declared.Next.{Next}
use Rattle.logrecords.specs.Answer.{told_next}
use Rattle.logrecords.specs.Outcome.{LineStands, NextRecord}

-- what is told of the record k with the place `to` after it, and of the end at a place
abbrev pub told_record : surface.Record → ℕ → Told
told_record k to = done (pos 1 ∷ pos to ∷ map pos (numbers k))

abbrev pub told_end : ℕ → Told
told_end at = done (pos 0 ∷ pos at ∷ replicate width (pos 0))

-- asked at a place, b tells v
pub record Tells (b : List ℕ) (at : ℕ) (v : Told) : Type 0 where
  pub answer : Next
  pub asked : NextRecord b at answer
  pub tells : told_next answer ≡ v

-- asked at a place, b gives the record k and the place `to` after it
abbrev pub Gives : List ℕ → ℕ → surface.Record → ℕ → Type 0
Gives b at k to = Tells b at (told_record k to)

-- asked from a place on, b gives these records and then the end
pub record Walked (b : List ℕ) (at : ℕ) (rs : List surface.Record) : Type 0 where
  pub to : ℕ
  pub gives : Leads (Gives b) at rs to
  pub ends : Tells b to (told_end to)

-- after the first line of a log sheet k lines with the numbers of a log, and then something else
pub record BreaksAfter (b : List ℕ) (n m k : ℕ) (log rest : List ℕ) : Type 0 where
  pub text : b ≡ first_line_lem LOG n m ++ (record_lines k log ++ rest)
  pub count : length log ≡ k * width
  pub short : FewDigits most_digits (map pos log)
  pub more : ¬ (rest ≡ [])
  pub other : (ns : List ℕ) → ¬ LineStands rest 0 ns

-- asked from a place on, b gives these records and then, and not before, tells 12
pub record Broken (b : List ℕ) (at : ℕ) (rs : List surface.Record) : Type 0 where
  pub to : ℕ
  pub gives : Leads (Gives b) at rs to
  pub bad : Tells b to (refused_as 12)
