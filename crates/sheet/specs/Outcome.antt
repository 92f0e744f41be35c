-- The whole outcome of reading a sheet: the answer, and every number of the two lent rooms.
use Rattle.std.specs.Prelude.{◌≡◌, true, List, ◌∷◌, ◌++◌, ℕ, ◌<◌, ℤ, length, drop, Result, Ok, Err}
use Rattle.surface.specs.Rows.{rows}
use Rattle.corners.specs.Skin.{Skin}
use Rattle.refusal.specs.First.{Refusals, ◌when◌, First}
use Rattle.refusal.specs.declared.Refusal.{Refusal}
use Rattle.refusal.specs.declared.Refusal.TheVariants.{RoomShort}
use Rattle.faults.specs.Order.{refusals_after_counts}
use Rattle.form.specs.Form.{SheetOf, form_refusals}

-- table or corners do not fit their lent rooms
pub data NoRoom (troom : List ℕ) (croom : List ℤ) (xs : List ℤ) (t : List ℕ) : Type 0 where
  table_short : length troom < length t → NoRoom troom croom xs t
  corners_short : length croom < length xs → NoRoom troom croom xs t

-- the rest, of the corners and rows that the sheet holds: 3, then 4 to 11, with 9
unfoldable pub skin_refusals : List ℕ → List ℤ → List ℤ → List ℕ → Refusals
skin_refusals troom croom xs t = (RoomShort when NoRoom troom croom xs t) ∷ refusals_after_counts true xs t

-- reading a sheet b with the lent rooms troom and croom leaves troom' and croom', and answers a
pub data ReadSheet (b : List ℕ) (troom troom' : List ℕ) (croom croom' : List ℤ) (a : Result (ℕ × ℕ) Refusal) : Type 0 where
  -- refused for its form: nothing is written
  bad_form : {r : Refusal} → First (form_refusals b) (Err r) → a ≡ Err r → troom' ≡ troom → croom' ≡ croom → ReadSheet b troom troom' croom croom' a
  -- in the form, and refused for what it holds: nothing is written
  bad_skin : {n m : ℕ} {xs : List ℤ} {t : List ℕ} {r : Refusal} → First (form_refusals b) (Ok tt) → SheetOf b n m xs t → First (skin_refusals troom croom xs t) (Err r) → a ≡ Err r → troom' ≡ troom → croom' ≡ croom → ReadSheet b troom troom' croom croom' a
  -- done: a skin, its table and corners in front of their rooms, the rest as it was
  read : {n m : ℕ} {xs : List ℤ} {t : List ℕ} → First (form_refusals b) (Ok tt) → SheetOf b n m xs t → First (skin_refusals troom croom xs t) (Ok tt) → Skin n (rows t) xs → a ≡ Ok (n, m) → troom' ≡ t ++ drop (length t) troom → croom' ≡ xs ++ drop (length xs) croom → ReadSheet b troom troom' croom croom' a
