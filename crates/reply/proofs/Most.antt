-- How long the desk's text can be: every number of a row or a record is a corner's or a row's place, and rows left and records share the sheet's rows.
use mathlib.Core.Path.{◌≡◌, refl, sym, ◌∙◌, ap, subst}
use mathlib.Core.List.Memᴰ
use mathlib.Core.List.{List, [], ◌∷◌, ◌++◌, map, map-append}
use Prim.Native.Nat.{ℕ, suc, ◌+◌, ◌*◌, ◌/◌, ◌^◌, ◌≤◌, ◌<◌}
use native.Mathlib.Omega.{arith}
use lib.IntN.{ℤ, pos, negsuc, nat_abs}
use lib.ListN.{length, length-append, length-map}
use lib.Seq.{take_all}
use Rattle.surface.specs.Lists.{◌∈◌}
use Rattle.surface.specs.Rows.{Row, row, rows, flat, turn_0, turn_1, turn_2}
use Rattle.surface.specs.Table.{Follows}
use Rattle.surface.specs.Stage.{Stage}
use Rattle.corners.specs.Skin.{InRange}
use Rattle.follow.specs.Leads.{no_step, one_step}
use Rattle.surface.specs.Record.{Record, Replays, Replayed}
use Rattle.surface.proofs.Flat.{flat_length, rows_length, at_place}
use Rattle.surface.proofs.TwoPlaces.{two_places}
use Rattle.refusal.specs.declared.Refusal.{Refusal}
use Rattle.refusal.specs.declared.Refusal.TheVariants.{LimitUnusable, CountsOutside, RoomShort, CoordinateOutOfRange, NumberNotBelow, NumberTwice, EdgeTwice, ReverseMissing, CornerUnused, RingsMany, NotConnected, SheetForm, RecordFails}
use Rattle.refusal.specs.Number.{number}
use Rattle.run.proofs.Main.{taken_replayed, replayed_stage, replayed_rows, step_stage}
use Rattle.record.specs.Layout.{width, three, numbers, log_of}
use Rattle.record.proofs.Log.{log_length}
use Rattle.figure.specs.Sum.{sixfold}
use Rattle.wide.specs.Rounding.{figure}
use Rattle.figure.proofs.Sizes.{sixfold_size}
use Rattle.ints.proofs.Ints.{abs_neg}
use Rattle.text.specs.Decimal.{decimal, signed}
use Rattle.text.proofs.Digits.{below_digits}
use Rattle.lines.specs.Lines.{fields, line, lines, FewDigits}
use Rattle.lines.proofs.Cut.{short_append}
use Rattle.heading.specs.Heading.{most_digits}
use Rattle.form.specs.Limits.{most_sheet_rows}
use Rattle.heading.proofs.Sizes.{signed_size, fields_size}
use Rattle.lines.specs.Kinds.{R, K, row_lines, record_lines}
use Rattle.tell.specs.Text.{OK, NO, most_text, no_text, ok_text}
use Rattle.reply.specs.Outcome.{TellsRun, SkinOf, Answers, no, ok}
use Rattle.lines.proofs.Lengths.{line_length, lines_length}
use Rattle.form.proofs.Counted.{counts_within}

-- ---- numbers of at most six digits

abbrev Few : List ℕ → Type 0
Few t = FewDigits most_digits (map pos t)

small : (v : ℕ) → v < 10 ^ most_digits → length (decimal v) ≤ most_digits
small v h = below_digits v most_digits (omega arith) h

few_append : (t u : List ℕ) → Few t → Few u → Few (t ++ u)
few_append t u a b = subst (FewDigits most_digits) (sym (map-append pos t u)) (short_append most_digits (map pos t) (map pos u) a b)

module _ {n : ℕ} {T : List Row} (s : Stage n T) where
  corner_small : {v p q : ℕ} → Follows T v p q → length (decimal v) ≤ most_digits
  corner_small {v} f = let h = s.below f in let k = s.many in small v (omega arith)

  row_few : (r : Row) → r ∈ T → Few (three r)
  row_few (row i j k) m =
      let a = corner_small (record { by = row i j k; here = m; turned = turn_0 refl }) in
      let b = corner_small (record { by = row i j k; here = m; turned = turn_2 refl }) in
      let c = corner_small (record { by = row i j k; here = m; turned = turn_1 refl }) in
      (a, (b, (c, tt)))

  -- a record's: two corners of an edge, two places in the table, and the rows that stand there
  record_few : {k : Record} {T' : List Row} → Replays T k T' → Few (numbers k)
  record_few {k} w =
      let two = two_places n T k.kept k.removed s w.meets in
      let e = sym w.record_is ∙ two.is in
      let p₁ : k.place_1 ≡ two.i = cc in
      let p₂ : k.place_2 ≡ two.j = cc in
      let r₁ : k.row_1 ≡ two.r = cc in
      let r₂ : k.row_2 ≡ two.z = cc in
      let o = two.order in
      let h = two.inside in
      let q = s.most in
      let d = row 0 0 0 in
      let in_1 : k.row_1 ∈ T = rw (r₁ ∙ sym (two.at_i d)) (at_place T two.i d (omega arith)) in
      let in_2 : k.row_2 ∈ T = rw (r₂ ∙ sym (two.at_j d)) (at_place T two.j d (omega arith)) in
      let later = few_append (three k.row_1) (k.place_2 ∷ three k.row_2) (row_few k.row_1 in_1) (small k.place_2 (omega arith), row_few k.row_2 in_2) in
      (corner_small w.meets.edge.1, (corner_small (s.both w.meets.edge).1, (small k.place_1 (omega arith), later)))

flat_few : (T : List Row) → ((r : Row) → r ∈ T → Few (three r)) → Few (flat T)
unfolding flat
flat_few [] h = tt
flat_few (row i j k ∷ T) h = let f = h (row i j k) (Memᴰ.head refl) in (f.0, (f.1.0, (f.1.1.0, flat_few T (λ r m. h r (Memᴰ.tail m)))))

pub log_few : {n : ℕ} {T T' : List Row} {l : List Record} → Stage n T → Replayed T l T' → Few (log_of l)
unfolding log_of
log_few s (no_step e) = tt
log_few s (one_step {i = k} {l = l} r w) = few_append (numbers k) (log_of l) (record_few s r) (log_few (step_stage s r) w)

-- ---- lines

few_lines : (w : List ℕ) (each k : ℕ) (t : List ℕ) → Few t → length t ≡ k * each → length (lines w each k (map pos t)) ≤ k * (length w + 1) + length t * 8
few_lines w each k t f h =
    let m = length-map t pos in
    let e = ap (λ l. length (fields l)) (take_all (k * each) (map pos t) (omega arith)) in
    omega (arith, lines_length w each k (map pos t), fields_size (map pos t) f)

figure_size : (z : ℤ) → nat_abs (figure z) ≤ nat_abs z
unfolding figure
figure_size (pos n) = omega arith
figure_size (negsuc n) = let e = abs_neg (pos ((suc n + 3000000) / 6000000)) in omega arith

-- a figure has at most 18 digits and a minus
figure_length : (xs : List ℤ) (T : List Row) → InRange xs → length T ≤ most_sheet_rows → length (signed (figure (sixfold xs T))) ≤ 19
figure_length xs T r h =
    let z = figure (sixfold xs T) in
    let d = below_digits (nat_abs z) 18 (omega arith) (omega (arith, figure_size (sixfold xs T), sixfold_size xs r T)) in
    omega (arith, signed_size z)

four_fields : (a b c d : ℤ) → length (fields (a ∷ b ∷ c ∷ d ∷ [])) ≡ 4 + length (signed a) + length (signed b) + length (signed c) + length (signed d)
four_fields a b c d =
    omega (
      arith,
      length-append (signed a) (fields (b ∷ c ∷ d ∷ [])),
      length-append (signed b) (fields (c ∷ d ∷ [])),
      length-append (signed c) (fields (d ∷ [])),
      length-append (signed d) [],
    )

-- ---- the text

number_small : (r : Refusal) → number r < 10 ^ most_digits
number_small LimitUnusable = omega arith
number_small CountsOutside = omega arith
number_small RoomShort = omega arith
number_small CoordinateOutOfRange = omega arith
number_small NumberNotBelow = omega arith
number_small NumberTwice = omega arith
number_small EdgeTwice = omega arith
number_small ReverseMissing = omega arith
number_small CornerUnused = omega arith
number_small RingsMany = omega arith
number_small NotConnected = omega arith
number_small SheetForm = omega arith
number_small RecordFails = omega arith

no_fits : (r : Refusal) → length (no_text r) ≤ most_text
unfolding no_text
no_fits r = omega (arith, line_length NO (pos (number r) ∷ []), length-append (decimal (number r)) [], small (number r) (number_small r))

-- the rows left and twice the records are the sheet's rows
ok_fits : {b : List ℕ} {xs : List ℤ} {t txt : List ℕ} → SkinOf b xs t → TellsRun xs t txt → length txt ≤ most_text
unfolding ok_text
ok_fits {xs = xs} {t} {txt} w p =
    let T = rows t in
    let log = p.log in
    let last = p.last in
    let s = w.skin.stage in
    let r = taken_replayed p.run.taken in
    let c = (counts_within w.form w.sheet).most in
    let e = w.sheet.rows in
    let n = rows_length w.m t (omega arith) in
    let all = replayed_rows s r in
    let f = flat_length last in
    let g = log_length log in
    let first = pos (length last) ∷ pos (length log) ∷ figure (sixfold xs T) ∷ figure (sixfold xs last) ∷ [] in
    omega (
      arith,
      ap length p.text,
      length-append (line OK first) (row_lines (length last) (flat last) ++ record_lines (length log) (log_of log)),
      length-append (row_lines (length last) (flat last)) (record_lines (length log) (log_of log)),
      line_length OK first,
      four_fields (pos (length last)) (pos (length log)) (figure (sixfold xs T)) (figure (sixfold xs last)),
      small (length last) (omega arith),
      small (length log) (omega arith),
      figure_length xs T w.skin.in_range (omega arith),
      figure_length xs last w.skin.in_range (omega arith),
      few_lines R 3 (length last) (flat last) (flat_few last (row_few (replayed_stage s r))) (omega arith),
      few_lines K width (length log) (log_of log) (log_few s r) (omega arith),
    )

pub answer_fits : {b txt : List ℕ} → Answers b txt → length txt ≤ most_text
answer_fits (no {r = r} k e) = let n = ap length e in omega (arith, no_fits r)
answer_fits (ok w p) = ok_fits w p
