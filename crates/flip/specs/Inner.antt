-- What the functions of this crate give; inner.
use Rattle.std.specs.Prelude.{◌≡◌, List, ℕ, get_or, Ok, Err, Result}
use Rattle.surface.specs.Rows.{rows}
use Rattle.flips.specs.Flip.{Stands, Flips}
use Rattle.record.specs.declared.Corner.{Corner}
use Rattle.record.specs.declared.Leaving.{Leaving}
use Rattle.slots.specs.Slot.{next_slot}
use Rattle.ends.specs.Rows.{row_of}
use Rattle.flipped.specs.declared.FlipRefusal.{FlipRefusal}
use Rattle.fliplog.specs.declared.FlipRecord.{FlipRecord}
use Rattle.fliplog.specs.InnerMeant.{meant}
use Rattle.flip.specs.Refused.{FlipRefused}

-- the third corner of the row of the directed edge at the slot e
abbrev pub third_at : List ℕ → ℕ → ℕ
third_at t e = get_or t (next_slot (next_slot e)) 0

-- r is the row that stands at the place p
pub record RowAt (t : List ℕ) (p : ℕ) (r : Leaving) : Type 0 where
  pub place : r.place.0 ≡ p
  pub stands : Stands (rows t) p (row_of r)

-- the rows that a flip writes at the places of a record: (c, a, d) and (c, d, b)
abbrev pub new_rows_lem : FlipRecord → Corner → Corner → Corner → Corner → FlipRecord
new_rows_lem k a b c d = record { first = record { place = k.first.place; a = c; b = a; c = d }; second = record { place = k.second.place; a = c; b = d; c = b } }

-- what comes of the flip of a b on the table t, its record or why it is refused, and the table after it
unfoldable pub Tries : List ℕ → ℕ → ℕ → Result FlipRecord FlipRefusal → List ℕ → Type 0
Tries t a b (Ok k) t' = Flips (rows t) a b (meant k) (rows t')
Tries t a b (Err r) t' = FlipRefused (rows t) a b r × (t' ≡ t)
