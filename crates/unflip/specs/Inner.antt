-- What the functions of this crate tell and leave; inner.
use Rattle.std.specs.Prelude.{◌≡◌, Bool, true, false, List, ℕ}
use Rattle.surface.specs.Rows.{rows, Turned}
use Rattle.flips.specs.Flip.{Flip}
use Rattle.flips.specs.Undo.{put_rows_lem}
use Rattle.flips.specs.InnerUndoable.{Undoable}
use Rattle.record.specs.declared.Leaving.{Leaving}
use Rattle.ends.specs.Rows.{row_of}
use Rattle.fliplog.specs.declared.FlipRecord.{FlipRecord}

-- the rows upper and lower are (c, a, d) and (c, d, b), as they are stored, and the record's old rows (a, b, c) and (b, a, d), however they are turned
pub record Wrote (upper lower : Leaving) (r : FlipRecord) : Type 0 where
  pub same_c : upper.a.0 ≡ lower.a.0
  pub same_d : upper.c.0 ≡ lower.b.0
  pub turned_1 : Turned (row_of r.first) upper.b.0 lower.c.0 upper.a.0
  pub turned_2 : Turned (row_of r.second) lower.c.0 upper.b.0 upper.c.0

-- whether the record k is undone on the table t, and the table after it
unfoldable pub Undoes : List ℕ → Flip → Bool → List ℕ → Type 0
Undoes t k true t' = Undoable (rows t) k × (rows t' ≡ put_rows_lem k (rows t))
Undoes t k false t' = (¬ Undoable (rows t) k) × (t' ≡ t)
