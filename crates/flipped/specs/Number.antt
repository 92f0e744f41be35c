-- 02's number for each refusal of an edge or a record.
use Rattle.std.specs.Prelude.{ℕ}
use Rattle.flipped.specs.declared.FlipRefusal.{FlipRefusal}
use Rattle.flipped.specs.declared.FlipRefusal.TheVariants.{EdgeMissing, EdgeBlocked, UndoFails}

abbrev pub number : FlipRefusal → ℕ
-- a listed edge that is missing
number EdgeMissing = 30
-- a listed edge whose opposite corners are neighbours already
number EdgeBlocked = 31
-- a flip's record that is not undone
number UndoFails = 32
