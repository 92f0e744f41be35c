-- A table's rows by place, read and written.
use mathlib.Core.Path.{◌≡◌, ◌∙◌, ap}
use mathlib.Core.List.{List}
use Prim.Native.Nat.{ℕ, ◌+◌, ◌*◌, ◌<◌}
use native.Mathlib.Omega.{arith}
use lib.ListN.{length, set, length-set}
use Rattle.surface.specs.Limits.{most_rows}
use Rattle.surface.specs.Rows.{rows}
use Rattle.flips.specs.Undo.{put_rows_lem}
use Rattle.flips.proofs.Places.{rows_set}
use Rattle.record.specs.declared.Leaving.{Leaving}
use Rattle.slots.specs.Slot.{next_slot, Whole}
use Rattle.slots.proofs.Slots.{whole_rows, next_inside}
use Rattle.ends.specs.Rows.{row_of}
use Rattle.fliplog.specs.declared.FlipRecord.{FlipRecord}
use Rattle.fliplog.specs.InnerMeant.{meant}

module _ (t : List ℕ) (w : Whole t) where
  -- the slots of a row are the table's
  pub inside : (p : ℕ) → p < length (rows t) → 3 * p + 2 < length t
  inside p h = let e = whole_rows t w.threes in omega arith

  -- the other slots of a slot's row are
  pub slots_inside : (e : ℕ) → e < length t → (next_slot e < length t) × (next_slot (next_slot e) < length t)
  slots_inside e h = let k = next_inside (length t) e w.threes h in (k, next_inside (length t) (next_slot e) w.threes k)

  pub few : (p : ℕ) → p < length (rows t) → p < most_rows
  few p h = let e = whole_rows t w.threes in let m = w.most in omega arith

-- the table with a row written at its place
abbrev pub put : List ℕ → Leaving → List ℕ
put t r = set (set (set t (3 * r.place.0) r.a.0) (3 * r.place.0 + 1) r.b.0) (3 * r.place.0 + 2) r.c.0

put_one : (t : List ℕ) (r : Leaving) → r.place.0 < length (rows t) → rows (put t r) ≡ set (rows t) r.place.0 (row_of r)
put_one t r h = rows_set r.place.0 t r.a.0 r.b.0 r.c.0 h

-- as many rows stand
pub put_many : (t : List ℕ) (r : Leaving) → r.place.0 < length (rows t) → length (rows (put t r)) ≡ length (rows t)
put_many t r h = ap length (put_one t r h) ∙ length-set (rows t) r.place.0 (row_of r)

-- the two rows of a record
pub put_two : (t t₁ t₂ : List ℕ) (r : FlipRecord) → t₁ ≡ put t r.second → t₂ ≡ put t₁ r.first → r.first.place.0 < length (rows t) → r.second.place.0 < length (rows t) → rows t₂ ≡ put_rows_lem (meant r) (rows t)
put_two t t₁ t₂ r e f h k =
    let one : rows t₁ ≡ set (rows t) r.second.place.0 (row_of r.second) = ap rows e ∙ put_one t r.second k in
    let many : length (rows t₁) ≡ length (rows t) = ap (λ (s : List ℕ). length (rows s)) e ∙ put_many t r.second k in
    ap rows f ∙ put_one t₁ r.first (omega (arith, many, h)) ∙ ap (λ T. set T r.first.place.0 (row_of r.first)) one
