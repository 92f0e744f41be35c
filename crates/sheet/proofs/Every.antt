-- Every skin within a sheet's limits has a sheet that reads, with its own table and corners.
use mathlib.Core.Path.{◌≡◌, refl}
use mathlib.Core.List.{List, [], ◌∷◌, ◌++◌, map}
use Prim.Native.Nat.{ℕ, suc, ◌%◌, ◌^◌, ◌≤◌, ◌<◌}
use native.Mathlib.Omega.{arith}
use lib.IntN.{ℤ, pos, nat_abs}
use lib.ListN.{length, drop, get_or}
use Rattle.std.specs.Prelude.{Result, Ok}
use Rattle.surface.specs.Rows.{rows}
use Rattle.corners.specs.Skin.{Skin}
use Rattle.refusal.specs.declared.Refusal.{Refusal}
use Rattle.refusal.specs.First.{First}
use Rattle.faults.proofs.Order.{skin_passes}
use Rattle.surface.proofs.Flat.{at_place}
use Rattle.slots.proofs.Slots.{whole_rows, at_follows}
use Rattle.text.specs.Decimal.{decimal}
use Rattle.text.proofs.Digits.{below_digits}
use Rattle.lines.specs.Lines.{FewDigits}
use Rattle.lines.specs.Kinds.{corner_lines, row_lines}
use Rattle.heading.specs.Heading.{most_digits}
use Rattle.form.specs.Limits.{most_sheet_corners, most_sheet_rows}
use Rattle.form.specs.Form.{sheet_text, CountsIn, SheetOf, form_refusals}
use Rattle.sheet.specs.Outcome.{ReadSheet, read}
use Rattle.form.proofs.Sizes.{sheet_size}
use Rattle.form.proofs.Formed.{its_line, form_passes}
use Rattle.sheet.proofs.Last.{after_room}
use Rattle.sheet.proofs.Promises.{SameOutcome, one_outcome}

six : (n : ℕ) → n < 10 ^ 6 → length (decimal n) ≤ most_digits
six n h = below_digits n 6 (omega arith) h

short_all : (zs : List ℤ) → ((i : ℕ) → i < length zs → nat_abs (get_or zs i (pos 0)) < 10 ^ 6) → FewDigits most_digits zs
short_all [] h = tt
short_all (z ∷ zs) h = (six (nat_abs z) (h 0 (omega arith)), short_all zs (λ i l. h (suc i) (omega arith)))

short_numbers : (t : List ℕ) → ((i : ℕ) → i < length t → get_or t i 0 < 10 ^ 6) → FewDigits most_digits (map pos t)
short_numbers [] h = tt
short_numbers (n ∷ t) h = (six n (h 0 (omega arith)), short_numbers t (λ i l. h (suc i) (omega arith)))

module _ (n : ℕ) (xs : List ℤ) (t : List ℕ) (threes : length t % 3 ≡ 0) (skin : Skin n (rows t) xs) (corners-within : n ≤ most_sheet_corners) (rows-within : length (rows t) ≤ most_sheet_rows) where
  abbrev pub m : ℕ
  m = length (rows t)

  counts : CountsIn n m
  counts = record { few = skin.stage.few; many = corners-within; least = skin.stage.least; most = rows-within }

  -- its sheet
  pub its_sheet : SheetOf (sheet_text n m xs t) n m xs t
  its_sheet =
      let c = skin.corners in
      let r = whole_rows t threes in
      record {
        text = refl;
        corners = omega arith;
        rows = omega arith;
        counts_short = (six n (omega arith), (six m (omega arith), tt));
        corners_short = short_all xs (λ i h. let k = skin.in_range.range (at_place xs i (pos 0) h) in omega arith);
        rows_short = short_numbers t (λ i h. let k = skin.stage.below (at_follows t threes i h) in omega arith);
      }

  pub its_form : First (form_refusals (sheet_text n m xs t)) (Ok tt)
  its_form = form_passes (sheet_text n m xs t) (sheet_size its_sheet counts) n m (corner_lines n xs ++ row_lines m t) (its_line its_sheet) counts its_sheet

  -- lent rooms that are long enough, it reads, and into them go its own table and corners
  pub its_sheet_reads : (troom troom' : List ℕ) (croom croom' : List ℤ) (a : Result (ℕ × ℕ) Refusal) → length t ≤ length troom → length xs ≤ length croom → ReadSheet (sheet_text n m xs t) troom troom' croom croom' a → SameOutcome a (Ok (n, m)) troom' (t ++ drop (length t) troom) croom' (xs ++ drop (length xs) croom)
  its_sheet_reads troom troom' croom croom' a h k o =
      let s = its_sheet in
      one_outcome (sheet_text n m xs t) troom croom o (read its_form s (after_room (record { counts = counts; corners = s.corners; rows = s.rows }) troom croom h k (Ok tt) (skin_passes t threes n xs skin)) skin refl refl refl)
