-- No second outcome of reading record by record; it gives what the whole reading gives; and a reader asked again and again gives a log sheet's records.
use mathlib.Core.Path.{◌≡◌, sym, ◌∙◌, ap, subst}
use mathlib.Core.List.{List, ◌++◌}
use Rattle.std.specs.Prelude.{Result, Ok, Err}
use Prim.Native.Nat.{ℕ}
use native.Mathlib.Omega.{arith}
use lib.ListN.{length, drop}
use Rattle.refusal.specs.First.{First}
use Rattle.refusal.specs.declared.Refusal.{Refusal}
use Rattle.refusal.proofs.Laws.{verdicts, first_one, refused_one, refused_passes, all_nor, passed, passes_none, none_yet, ◌nor◌}
use Rattle.record.specs.Layout.{count, records, first_records}
use Rattle.lines.specs.Kinds.{record_lines}
use Rattle.heading.specs.Heading.{first_line_lem, NoFirstLine}
use Rattle.heading.proofs.First.{same_first}
use Rattle.logform.specs.LogSheet.{LOG, LogSheetOf, CountsIn}
use Rattle.logform.proofs.Forming.{its_line, one_log}
use Rattle.logrecords.specs.Outcome as opening
use Rattle.logrecords.specs.Outcome.{open_refusals}
use Rattle.logrecords.specs.Walk.{Walked, BreaksAfter, Broken}
use Rattle.logrecords.proofs.Walking.{walked_through, broken_off}
use Rattle.logsheet.specs.declared.LogCounts.{LogCounts}
use Rattle.logsheet.specs.Outcome as whole
use Rattle.logsheet.specs.Outcome.{read_refusals, ReadLogSheet}
use Rattle.logreader.specs.declared.Reader.{Reader}
use Rattle.logreader.specs.Outcome.{each_refusals, EachRecord, unread, each}
use Rattle.logreader.specs.Walk.{AskedOn, BrokenOn}
use Rattle.logreader.proofs.Again.{walks_asked, breaks_asked}

-- ---- one outcome

-- no second outcome of reading record by record
pub each_one : {b room room₁ room₂ : List ℕ} {a₁ a₂ : Result LogCounts Refusal} → EachRecord b room room₁ a₁ → EachRecord b room room₂ a₂ → (a₁ ≡ a₂) × (room₁ ≡ room₂)
each_one (unread f e p) (unread g d q) = (e ∙ ap Err (refused_one (first_one verdicts _ f g)) ∙ sym d, p ∙ sym q)
each_one (unread f e p) (each g s d q) = refused_passes (first_one verdicts _ f g)
each_one (each f s e p) (unread g d q) = refused_passes (first_one verdicts _ g f)
each_one {room = room} (each f s e p) (each g u d q) =
    let o = one_log s u in
    (e ∙ (λ i. Ok (record { corners = o.corners i; rows = o.rows i; records = count (o.numbers i) })) ∙ sym d, p ∙ (λ i. o.numbers i ++ drop (length (o.numbers i)) room) ∙ sym q)

-- ---- what the whole reading reads

module _ {b : List ℕ} {n m : ℕ} {log : List ℕ} (s : LogSheetOf b n m log) where
  begins : ¬ NoFirstLine LOG b
  begins none = none n m (record { rest = record_lines (count log) log; line = its_line s })

  -- counts that are in with the records are in without them
  counts_in_lem : (¬ whole.CountsOut b) → ¬ opening.CountsOut b
  counts_in_lem within o =
      let u = same_first LOG b n m o.n o.m (record_lines (count log) log) o.begins.rest (its_line s) o.begins.line in
      within (record { n = n; m = m; log = log; sheet = s; out = λ c. o.out (rw (u.corners, u.rows) at (fewer c)) })
    where
      fewer : CountsIn n m (count log) → CountsIn n m 0
      fewer c = record { few = c.few; many = c.many; least = c.least; most = c.most; fewer = omega arith }

  -- what passes the whole reading is opened, and passes the reading record by record
  pub open_passes : (room : ℕ) → First (read_refusals b room) (Ok tt) → First (open_refusals b) (Ok tt)
  unfolding read_refusals open_refusals
  open_passes room f =
      let a = passed verdicts _ _ f in
      let c = passed verdicts _ _ a.1 in
      let d = passed verdicts _ _ c.1 in
      (passes_none verdicts _).1 (a.0 nor begins nor counts_in_lem d.0 nor none_yet)

  each_passes : (room : ℕ) → First (read_refusals b room) (Ok tt) → First (each_refusals b room) (Ok tt)
  unfolding read_refusals each_refusals
  each_passes room f =
      let c = passed verdicts _ _ (passed verdicts _ _ f).1 in
      let e = passed verdicts _ _ (passed verdicts _ _ c.1).1 in
      (passes_none verdicts _).1 (all_nor ((passes_none verdicts _).0 (open_passes room f)) (c.0 nor e.0 nor none_yet))

-- what is read whole is read record by record: the same answer, and the same room
pub each_as_read : {b room room₁ room₂ : List ℕ} {c : LogCounts} {a : Result LogCounts Refusal} → ReadLogSheet b room room₁ (Ok c) → EachRecord b room room₂ a → (a ≡ Ok c) × (room₂ ≡ room₁)
each_as_read (whole.refused f e p) x = let z : ◌≡◌ {A = ℕ} 0 1 = cc in absurd (omega arith)
each_as_read {room = room} (whole.read f s e p) x = each_one x (each (each_passes s (length room) f) s e p)

-- ---- asked again and again

-- a reader of a log sheet, asked from the place after the first line on, gives its log's records, and then the end
pub reader_through : (r : Reader) {n m : ℕ} {log : List ℕ} → LogSheetOf r.bytes.now n m log → r.at ≡ length (first_line_lem LOG n m) → AskedOn r (records log)
reader_through r {log = log} s at = walks_asked r.bytes (subst (λ (k : ℕ). Walked r.bytes.now k (records log)) (sym at) (walked_through s))

-- and where something else follows some lines of records, these, and then that it stands there
pub reader_breaks : (r : Reader) {n m k : ℕ} {log rest : List ℕ} → BreaksAfter r.bytes.now n m k log rest → r.at ≡ length (first_line_lem LOG n m) → BrokenOn r (first_records k log)
reader_breaks r {k = k} {log} w at = breaks_asked r.bytes (subst (λ (i : ℕ). Broken r.bytes.now i (first_records k log)) (sym at) (broken_off w))
