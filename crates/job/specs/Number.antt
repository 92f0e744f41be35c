-- 02's number for each refusal of a job: 01's for the form, and six new ones in the order in which they are asked.
use Rattle.std.specs.Prelude.{ℕ}
use Rattle.job.specs.declared.JobRefusal.{JobRefusal}
use Rattle.job.specs.declared.JobRefusal.TheVariants.{SheetForm, JobCount, JobKind, JobName, JobAlternation, JobDepth, JobSum}

abbrev pub number : JobRefusal → ℕ
-- sheet not in its form, or too long
number SheetForm = 12
-- entries outside limits: none, or too many
number JobCount = 20
-- a kind that is neither V nor S
number JobKind = 21
-- a name that is no earlier entry's, or `-` in any but the first, or a number in the first
number JobName = 22
-- kinds that do not alternate
number JobAlternation = 23
-- nesting too deep
number JobDepth = 24
-- a sum out of range
number JobSum = 25
