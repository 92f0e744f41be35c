-- One by one the records are those of the whole reading, and then comes the end.
use mathlib.Core.Path.{◌≡◌, refl, sym, ◌∙◌, ap, subst}
use mathlib.Core.List.{List, [], ◌∷◌, ◌++◌, append_assoc, append-nil, map}
use Prim.Native.Nat.{ℕ, zero, suc, ◌+◌, ◌*◌, ◌<◌}
use native.Mathlib.Omega.{arith}
use lib.IntN.{pos}
use lib.ListN.{length, take, drop, get_or, length-drop, take-append-drop}
use lib.Seq.{length-take-le, get_or-take, drop-drop, drop_at}
use Rattle.follow.specs.Leads.{Leads, no_step, one_step}
use Rattle.surface.specs.Rows.{row}
use Rattle.record.specs.Layout.{width, count, record_at, first_records, records}
use Rattle.record.specs.declared.Record.{Record}
use Rattle.lines.specs.Lines.{line, lines, FewDigits}
use Rattle.lines.specs.Kinds.{K, record_lines}
use Rattle.lines.proofs.Cut.{map_take, map_drop, short_left, short_right}
use Rattle.heading.specs.Heading.{most_digits, first_line_lem}
use Rattle.logform.specs.LogSheet.{LOG, LogSheetOf}
use Rattle.logrecords.specs.declared.Next.TheVariants.{Found, End, Bad}
use Rattle.logrecords.specs.Outcome.{LineStands, found, ended, other}
use Rattle.logrecords.specs.Walk.{Gives, Walked, BreaksAfter, Broken}

-- the first ten numbers as the code's record
first_told : List ℕ → Record
first_told l = record {
  kept = record { 0 = get_or l 0 0 };
  removed = record { 0 = get_or l (0 + 1) 0 };
  earlier = record { place = record { 0 = get_or l (0 + 2) 0 }; a = record { 0 = get_or l (0 + 3) 0 }; b = record { 0 = get_or l (0 + 4) 0 }; c = record { 0 = get_or l (0 + 5) 0 } };
  later = record { place = record { 0 = get_or l (0 + 6) 0 }; a = record { 0 = get_or l (0 + 7) 0 }; b = record { 0 = get_or l (0 + 8) 0 }; c = record { 0 = get_or l (0 + 9) 0 } };
}

-- a record reads its own numbers alone
own : (l : List ℕ) → record_at l 0 ≡ record_at (take width l) 0
own l =
    let e : (i : ℕ) → i < width → get_or l i 0 ≡ get_or (take width l) i 0 = λ i h. sym (get_or-take width l i 0 h) in
    λ i. record {
      kept = e 0 (omega arith) i;
      removed = e (0 + 1) (omega arith) i;
      place_1 = e (0 + 2) (omega arith) i;
      row_1 = row (e (0 + 3) (omega arith) i) (e (0 + 4) (omega arith) i) (e (0 + 5) (omega arith) i);
      place_2 = e (0 + 6) (omega arith) i;
      row_2 = row (e (0 + 7) (omega arith) i) (e (0 + 8) (omega arith) i) (e (0 + 9) (omega arith) i);
    }

-- so many lines of records from a place on, whatever follows them, and where that begins
record Passes (b : List ℕ) (at k : ℕ) (log rest : List ℕ) : Type 0 where
  to : ℕ
  gives : Leads (Gives b) at (first_records k log) to
  left : drop to b ≡ rest

passes : (k : ℕ) (b : List ℕ) (at : ℕ) (log rest : List ℕ) → length log ≡ k * width → FewDigits most_digits (map pos log) → drop at b ≡ record_lines k log ++ rest → Passes b at k log rest
unfolding first_records first_told
passes zero b at log rest n s e = record { to = at; gives = no_step refl; left = e }
passes (suc k) b at log rest n s e =
    let ns = take width log in
    let more = record_lines k (drop width log) ++ rest in
    let f : drop at b ≡ line K (map pos ns) ++ more =
    e ∙ append_assoc (line K (take width (map pos log))) (lines K width k (drop width (map pos log))) rest
    ∙ (λ i. line K (sym (map_take pos width log) i) ++ (lines K width k (sym (map_drop pos width log) i) ++ rest)) in
    let short : FewDigits most_digits (take width (map pos log) ++ drop width (map pos log)) = subst (FewDigits most_digits) (sym (take-append-drop width (map pos log))) s in
    let here : LineStands b at ns = record {
      count = length-take-le width log (omega arith);
      after = more;
      line = record { bytes = f; short = rw (map_take pos width log) (short_left most_digits (take width (map pos log)) (drop width (map pos log)) short) };
    } in
    let m = at + length (line K (map pos ns)) in
    let next : drop m b ≡ more = sym (drop-drop (length (line K (map pos ns))) at b) ∙ ap (drop (length (line K (map pos ns)))) f ∙ drop_at (line K (map pos ns)) more (length (line K (map pos ns))) refl in
    let on = passes k b m (drop width log) rest (length-drop width log ∙ (omega arith)) (rw (map_drop pos width log) (short_right most_digits (take width (map pos log)) (drop width (map pos log)) short)) next in
    record { to = on.to; gives = one_step (record { answer = Found (first_told log) (record { at = m }); asked = found here (own log) refl; tells = refl }) on.gives; left = on.left }

-- asked from the place after the first line on, a log sheet gives its log's records, and then the end
pub walked_through : {b : List ℕ} {n m : ℕ} {log : List ℕ} → LogSheetOf b n m log → Walked b (length (first_line_lem LOG n m)) (records log)
walked_through {b} {n} {m} {log} s =
    let w = s.whole in
    let at = length (first_line_lem LOG n m) in
    let all = drop_at (first_line_lem LOG n m) (record_lines (count log) log) at refl ∙ sym (append-nil (record_lines (count log) log)) in
    let p = passes (count log) b at log [] (omega arith) s.short (ap (drop at) s.text ∙ all) in
    let f = ap length p.left in
    record { to = p.to; gives = p.gives; ends = record { answer = End (record { at = p.to }); asked = ended (omega (arith, length-drop p.to b)) refl; tells = refl } }

some : (l : List ℕ) → ¬ (l ≡ []) → 0 < length l
some [] h = absurd (h refl)
some (x ∷ l) h = omega arith

-- where something else follows some lines of records, these are given, and then that it stands there
pub broken_off : {b : List ℕ} {n m k : ℕ} {log rest : List ℕ} → BreaksAfter b n m k log rest → Broken b (length (first_line_lem LOG n m)) (first_records k log)
broken_off {b} {n} {m} {k} {log} {rest} w =
    let at = length (first_line_lem LOG n m) in
    let p = passes k b at log rest w.count w.short (ap (drop at) w.text ∙ drop_at (first_line_lem LOG n m) (record_lines k log ++ rest) at refl) in
    let f = ap length p.left in
    let here : p.to < length b = omega (arith, length-drop p.to b, some rest w.more) in
    record { to = p.to; gives = p.gives; bad = record { answer = Bad; asked = other here (λ ns x. w.other ns (record { count = x.count; after = x.after; line = rw p.left at x.line })) refl; tells = refl } }
