-- What a row read from a log is; inner.
use Rattle.std.specs.Prelude.{◌≡◌, List, ℕ, ◌+◌, get_or}
use Rattle.record.specs.declared.Leaving.{Leaving}

-- r has the four numbers of a list from place i on: a place and a row
pub record ReadRow (l : List ℕ) (i : ℕ) (r : Leaving) : Type 0 where
  pub place : r.place.0 ≡ get_or l i 0
  pub a : r.a.0 ≡ get_or l (i + 1) 0
  pub b : r.b.0 ≡ get_or l (i + 2) 0
  pub c : r.c.0 ≡ get_or l (i + 3) 0
