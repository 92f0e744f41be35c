-- Slips of writing and reading log sheets: what each would answer of O's log, or leave, is not allowed by the words of the contract.
use mathlib.Core.Path.{◌≡◌, refl, sym, ◌∙◌, ap, subst}
use mathlib.Core.Logic.{◌≢◌, inl, inr}
use mathlib.Core.List.{List, [], ◌∷◌, map}
use Prim.Native.Nat.{ℕ, ◌+◌, ◌≤◌, ◌<◌}
use native.Mathlib.Omega.{arith}
use lib.IntN.{pos, nat_abs}
use lib.ListN.{length, get_or, drop}
use Rattle.std.specs.Prelude.{Ok, Err}
use Rattle.surface.specs.Record as surface
use Rattle.refusal.specs.Told.{Told}
use Rattle.refusal.specs.First.{First, FirstOf}
use Rattle.refusal.specs.declared.Refusal.{Refusal}
use Rattle.refusal.specs.declared.Refusal.TheVariants.{CountsOutside}
use Rattle.refusal.proofs.Laws.{verdicts, passed}
use Rattle.refusal.proofs.Outcome.{refused_done}
use Rattle.record.specs.Layout.{width, record_at, first_records}
use Rattle.record.specs.declared.Record.{Record}
use Rattle.record.specs.Meant.{meant}
use Rattle.text.specs.Decimal.{decimal}
use Rattle.text.specs.declared.Cursor.{Cursor}
use Rattle.text.proofs.Digits.{below_digits}
use Rattle.lines.specs.Lines.{line, FewDigits}
use Rattle.lines.specs.Kinds.{K}
use Rattle.lines.proofs.Lengths.{line_length}
use Rattle.heading.specs.Heading.{most_digits, first_line_lem}
use Rattle.heading.proofs.First.{same_first}
use Rattle.logform.specs.LogSheet.{LOG, log_text, LogSheetOf}
use Rattle.logsheet.specs.Answer.{told}
use Rattle.logsheet.specs.Outcome.{read_refusals, ReadLogSheet, refused, read, Writable, WroteLogSheet, unwritten, wrote}
use Rattle.logform.proofs.Forming.{its_line}
use Rattle.logsheet.proofs.Main.{its_log_sheet, reads_back}
use Rattle.logrecords.specs.declared.Next.TheVariants.{Found, End, Bad}
use Rattle.logrecords.specs.Answer.{told_opened, told_next}
use Rattle.logrecords.specs.Outcome.{CountsOut, open_refusals, OpenedLog, unopened, opened, NextRecord, found, ended, other}
use Rattle.logrecords.specs.Walk.{Gives}
use Rattle.logrecords.proofs.Main.{next_one}
use Rattle.logrecords.proofs.Walking.{walked_through}
use Rattle.logreader.specs.declared.Reader.{Reader}
use Rattle.logreader.specs.Outcome.{Asked, each_refusals, EachRecord, unread, each}
use Rattle.follow.specs.Leads.{Leads, one_step}
use Rattle.cases.specs.Cases.{O_log}

-- a number of one digit has few
pub one_digit : (v : ℕ) → v < 10 → length (decimal v) ≤ most_digits
one_digit v h = below_digits v most_digits (omega arith) (omega (arith, h))

pub O_short : FewDigits most_digits (map pos O_log)
O_short =
    let a = one_digit 0 (omega arith) in
    let b = one_digit 1 (omega arith) in
    let c = one_digit 2 (omega arith) in
    let d = one_digit 3 (omega arith) in
    let e = one_digit 4 (omega arith) in
    let f = one_digit 5 (omega arith) in
    (a, (b, (a, (a, (b, (c, (d, (a, (e, (b, (a, (c, (a, (a, (c, (d, (c, (f, (c, (a, tt))))))))))))))))))))

-- O's log can be written
O_writable : Writable 6 8 O_log
O_writable = record { whole = refl; counts = record { few = omega arith; many = omega arith; least = omega arith; most = omega arith; fewer = omega arith }; short = O_short }

abbrev O_sheet : List ℕ
O_sheet = log_text 6 8 O_log

module _ {room room' : List ℕ} (fits : 20 ≤ length room) where
  -- a reader that refuses everything
  pub refuses_every_log : (r : Refusal) → ¬ ReadLogSheet O_sheet room room' (Err r)
  refuses_every_log r h = refused_done r (ap told (reads_back O_writable fits h).0)

  -- one that answers with no record for everything
  pub no_record_for_all : ¬ ReadLogSheet O_sheet room room' (Ok (record { corners = 6; rows = 8; records = 0 }))
  no_record_for_all h = let e = ap (λ (v : Told). nat_abs (get_or v.values 2 (pos 0))) (ap told (reads_back O_writable fits h).0) in let f : ◌≡◌ {A = ℕ} 0 2 = e in omega arith

  -- one that exchanges corners and rows
  pub log_counts_exchanged : ¬ ReadLogSheet O_sheet room room' (Ok (record { corners = 8; rows = 6; records = 2 }))
  log_counts_exchanged h = let e = ap (λ (v : Told). nat_abs (get_or v.values 0 (pos 0))) (ap told (reads_back O_writable fits h).0) in let f : ◌≡◌ {A = ℕ} 8 6 = e in omega arith

  -- one that reads each record as the first
  pub first_record_again : {k : ℕ} → get_or room' 11 0 ≡ 1 → ¬ ReadLogSheet O_sheet room room' (Ok (record { corners = 6; rows = 8; records = k }))
  first_record_again e h = let f : ◌≡◌ {A = ℕ} 1 2 = sym e ∙ ap (λ l. get_or l 11 0) (reads_back O_writable fits h).1 in omega arith

-- one that writes in the room and then refuses
pub scribbles_and_refuses : {b room room' : List ℕ} {r : Refusal} → room' ≢ room → ¬ ReadLogSheet b room room' (Err r)
scribbles_and_refuses n (refused f e p) = n p
scribbles_and_refuses {r = r} n (read f s e p) = refused_done r (ap told e)

-- the sheet of two records for five corners: the whole reading refuses it with 2; reading record by record does not count them
two_for_five : LogSheetOf (log_text 5 8 O_log) 5 8 O_log
two_for_five = record { text = refl; whole = refl; counts_short = (one_digit 5 (omega arith), (one_digit 8 (omega arith), tt)); short = O_short }

-- one that takes more records than the corners but four: two of them for five corners
pub one_record_too_many : {room room' : List ℕ} → ¬ ReadLogSheet (log_text 5 8 O_log) room room' (Ok (record { corners = 5; rows = 8; records = 2 }))
unfolding read_refusals
one_record_too_many (refused {r = r} f e p) = refused_done r (sym (ap told e))
one_record_too_many (read f s e p) =
    let size = passed verdicts _ _ f in
    let form = passed verdicts _ _ size.1 in
    let counts = passed verdicts _ _ form.1 in
    counts.0 (record { n = 5; m = 8; log = O_log; sheet = two_for_five; out = λ c. let h = c.fewer in omega arith })

-- a writer that tells another number of bytes than it wrote
pub bytes_miscounted : {text text' : List ℕ} {k : ℕ} → k ≢ length O_sheet → ¬ WroteLogSheet 6 8 O_log text text' (Ok k)
bytes_miscounted n (unwritten f e p) = let z : ◌≡◌ {A = ℕ} 0 1 = cc in omega arith
bytes_miscounted n (wrote f w e p) = n cc

-- the fourth value told is the removed number: 1 of O's first record, 2 of its second
abbrev removed : Told → ℕ
removed v = nat_abs (get_or v.values 3 (pos 0))

-- asked for the record after the first line, one that tells the next one
pub record_skipped : {r : Record} {c : Cursor} → meant r ≡ record_at O_log 10 → ¬ NextRecord O_sheet (length (first_line_lem LOG 6 8)) (Found r c)
unfolding first_records
record_skipped {r} {c} e h = go (walked_through (its_log_sheet O_writable)).gives
  where
    go : {to : ℕ} → Leads (Gives O_sheet) (length (first_line_lem LOG 6 8)) (record_at O_log 0 ∷ record_at (drop width O_log) 0 ∷ []) to → ⊥
    go (one_step g _) =
        let f : ◌≡◌ {A = ℕ} 2 1 = ap (λ (k : surface.Record). k.removed) (sym e) ∙ ap removed (ap told_next (next_one h g.asked) ∙ g.tells) in
        omega arith

-- one that takes the end for a bad line, or a bad line for the end
pub end_told_as_bad : {b : List ℕ} {at : ℕ} → length b ≤ at → ¬ NextRecord b at Bad
end_told_as_bad h (found s m e) = let z : ◌≡◌ {A = ℕ} 0 1 = cc in omega arith
end_told_as_bad h (ended k e) = let z : ◌≡◌ {A = ℕ} 0 1 = cc in omega arith
end_told_as_bad h (other k none e) = omega (arith, h, k)

pub bad_told_as_end : {b : List ℕ} {at : ℕ} {c : Cursor} → at < length b → ¬ NextRecord b at (End c)
bad_told_as_end h (found s m e) = let z : ◌≡◌ {A = ℕ} 0 1 = cc in omega arith
bad_told_as_end h (ended k e) = omega (arith, h, k)
bad_told_as_end h (other k none e) = let z : ◌≡◌ {A = ℕ} 0 1 = cc in omega arith

-- ---- opened, asked, and read record by record

-- opened at another place than the one after the first line
pub opened_elsewhere : {b : List ℕ} {n m : ℕ} {c : Cursor} → c.at ≢ length (first_line_lem LOG n m) → ¬ OpenedLog b (Ok (record { corners = n; rows = m; after = c }))
opened_elsewhere n (unopened {r = r} f e) = refused_done r (sym (ap told_opened e))
opened_elsewhere {n = n} {m} {c} apart (opened {n = x} {m = y} f s e) =
    let g = ap told_opened e in
    let hx : n ≡ x = ap (λ (v : Told). nat_abs (get_or v.values 0 (pos 0))) g in
    let hy : m ≡ y = ap (λ (v : Told). nat_abs (get_or v.values 1 (pos 0))) g in
    let hc : c.at ≡ length (first_line_lem LOG x y) = ap (λ (v : Told). nat_abs (get_or v.values 2 (pos 0))) g in
    apart (hc ∙ (λ i. length (first_line_lem LOG (sym hx i) (sym hy i))))

-- a reader that is given a record and does not move past it
pub reader_stands_still : {r r' : Reader} {x : Record} {c : Cursor} → r'.at ≡ r.at → ¬ Asked r r' (Found x c)
reader_stands_still e a = go a.answer (sym a.place ∙ e)
  where
    go : {b : List ℕ} {at : ℕ} {x : Record} {c : Cursor} → NextRecord b at (Found x c) → c.at ≡ at → ⊥
    go {at = at} {c = c} (found {ns = ns} s m d) q =
        let p : c.at ≡ at + length (line K (map pos ns)) = cc in
        omega (arith, p, q, line_length K (map pos ns))
    go (ended h d) q = let z : ◌≡◌ {A = ℕ} 0 1 = cc in omega arith
    go (other h none d) q = let z : ◌≡◌ {A = ℕ} 0 1 = cc in omega arith

-- its first line has counts inside their limits
five_inside : ¬ CountsOut (log_text 5 8 O_log)
five_inside o =
    let e = same_first LOG (log_text 5 8 O_log) 5 8 o.n o.m _ _ (its_line two_for_five) o.begins.line in
    o.out (rw (sym e.corners, sym e.rows) (record { few = omega arith; many = omega arith; least = omega arith; most = omega arith; fewer = omega arith }))

-- one that, opened or reading record by record, holds the records against the corners
not_for_counts : (room : ℕ) → ¬ First (each_refusals (log_text 5 8 O_log) room) (Err CountsOutside)
unfolding each_refusals open_refusals FirstOf
not_for_counts room (inl (g, q)) = let z : ◌≡◌ {A = ℕ} 0 1 = cc in omega arith
not_for_counts room (inr (n, inl (g, q))) = let z : ◌≡◌ {A = ℕ} 0 1 = cc in omega arith
not_for_counts room (inr (n, inr (m, inl (o, q)))) = five_inside o
not_for_counts room (inr (n, inr (m, inr (k, inl (g, q))))) = let z : ◌≡◌ {A = ℕ} 0 1 = cc in omega arith
not_for_counts room (inr (n, inr (m, inr (k, inr (j, inl (g, q)))))) = let z : ◌≡◌ {A = ℕ} 0 1 = cc in omega arith
not_for_counts room (inr (n, inr (m, inr (k, inr (j, inr (i, q)))))) = let z : ◌≡◌ {A = ℕ} 0 1 = cc in omega arith

pub each_counts_records : {room room' : List ℕ} → ¬ EachRecord (log_text 5 8 O_log) room room' (Err CountsOutside)
each_counts_records {room} (unread {r = r} f e p) = let q : r ≡ CountsOutside = cc in not_for_counts (length room) (subst (λ x. First (each_refusals (log_text 5 8 O_log) (length room)) (Err x)) q f)
each_counts_records (each f s e p) = refused_done CountsOutside (ap told e)
