-- What is kept of a table at the end: the rows that still stand, in their order.
use Rattle.std.specs.Prelude.{◌≡◌, cond, List, [], ◌∷◌, ◌++◌, ℕ, ◌+◌, eqb, length, get_or, drop}
use Rattle.std.proofs.lemmas.List.Edits.{sets}
use Rattle.surface.specs.Limits.{most_corners}
use Rattle.surface.specs.Rows.{flat}
use Rattle.spots.specs.InnerHeld.{held_rows}

-- of one row: nothing where it has left
unfoldable pub kept_row : ℕ → ℕ → ℕ → List ℕ
kept_row i j k = cond (eqb i most_corners) [] (i ∷ j ∷ k ∷ [])

-- of the row from the place x of h on
abbrev pub kept_at : List ℕ → ℕ → List ℕ
kept_at h x = kept_row (get_or h (x + 2) 0) (get_or h x 0) (get_or h (x + 1) 0)

-- that row has gone to the place j of the table t, or has left: r is the next place
pub record KeptRow (h : List ℕ) (x : ℕ) (t : List ℕ) (j r : ℕ) (t' : List ℕ) : Type 0 where
  pub next : r ≡ j + length (kept_at h x)
  pub wrote : t' ≡ sets t j (kept_at h x)

-- the r numbers of the rows that stand are in front of t, and all that lies past them is as it was
pub record ClosedUp (h t : List ℕ) (r : ℕ) (t' : List ℕ) : Type 0 where
  pub count : r ≡ length (flat (held_rows h))
  pub wrote : t' ≡ flat (held_rows h) ++ drop r t
