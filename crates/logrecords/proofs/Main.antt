-- No second outcome of opening a log sheet, or of asking for the record at a place; and what the answers tell.
use mathlib.Core.Path.{◌≡◌, sym, ◌∙◌, ap}
use mathlib.Core.Logic.{◌⊎◌, inl, inr}
use mathlib.Core.List.{List, [], ◌∷◌, map}
use Rattle.std.specs.Prelude.{Result, Ok, Err}
use Prim.Native.Nat.{ℕ, ◌+◌, ◌≤◌}
use native.Mathlib.Omega.{arith}
use lib.IntN.{pos}
use lib.ListN.{length, length-append, length-map, length-drop}
use Rattle.refusal.specs.First.{First}
use Rattle.refusal.specs.Told as answers
use Rattle.refusal.specs.declared.Refusal.{Refusal}
use Rattle.refusal.proofs.Laws.{verdicts, first_one, refused_one, refused_passes}
use Rattle.surface.specs.Rows.{Row, row}
use Rattle.record.specs.Layout.{record_at}
use Rattle.record.specs.declared.Record.{Record}
use Rattle.record.specs.Meant.{meant}
use Rattle.lines.specs.Lines.{line}
use Rattle.lines.specs.Kinds.{K}
use Rattle.lines.proofs.Lengths.{line_length}
use Rattle.lines.proofs.Cut.{line_unique}
use Rattle.lines.proofs.Plain.{pos_same}
use Rattle.heading.specs.declared.Heading.{Heading}
use Rattle.heading.specs.Heading.{first_line_lem, Begins}
use Rattle.heading.proofs.First.{same_first}
use Rattle.logform.specs.LogSheet.{LOG}
use Rattle.logrecords.specs.declared.Next.{Next}
use Rattle.logrecords.specs.declared.Next.TheVariants.{Found}
use Rattle.logrecords.specs.Answer.{told_opened}
use Rattle.logrecords.specs.Outcome.{open_refusals, OpenedLog, unopened, opened, LineStands, NextRecord, found, ended, other}

-- ---- one outcome

-- no second outcome of opening
pub opened_one : {b : List ℕ} {a₁ a₂ : Result Heading Refusal} → OpenedLog b a₁ → OpenedLog b a₂ → a₁ ≡ a₂
opened_one (unopened f e) (unopened g d) = e ∙ ap Err (refused_one (first_one verdicts _ f g)) ∙ sym d
opened_one (unopened f e) (opened g s d) = refused_passes (first_one verdicts _ f g)
opened_one (opened f s e) (unopened g d) = refused_passes (first_one verdicts _ g f)
opened_one {b} (opened {n = n} {m = m} f s e) (opened {n = n'} {m = m'} g u d) =
    let o = same_first LOG b n m n' m' s.rest u.rest s.line u.line in
    e ∙ (λ i. Ok (record { corners = o.corners i; rows = o.rows i; after = record { at = length (first_line_lem LOG (o.corners i) (o.rows i)) } })) ∙ sym d

-- a place has one line
one_line : {b : List ℕ} {at : ℕ} {ns ms : List ℕ} → LineStands b at ns → LineStands b at ms → ns ≡ ms
one_line {ns = ns} {ms} s u =
    pos_same ns ms (line_unique K (map pos ns) (map pos ms) s.after u.after (length-map ns pos ∙ s.count ∙ sym (length-map ms pos ∙ u.count)) (sym s.line.bytes ∙ u.line.bytes)).0

-- a line that stands has its bytes
begun : {b : List ℕ} {at : ℕ} {ns : List ℕ} → LineStands b at ns → ¬ (length b ≤ at)
begun {b} {at} {ns} s h =
    let e = ap length s.line.bytes in
    omega (arith, h, e, length-drop at b, length-append (line K (map pos ns)) s.after, line_length K (map pos ns))

abbrev a_of : Row → ℕ
a_of (row i j k) = i

abbrev b_of : Row → ℕ
b_of (row i j k) = j

abbrev c_of : Row → ℕ
c_of (row i j k) = k

-- the code has one record for what it means
meant_one : {r q : Record} → meant r ≡ meant q → r ≡ q
meant_one e =
    λ i. record {
      kept = record { 0 = (e i).kept };
      removed = record { 0 = (e i).removed };
      earlier = record { place = record { 0 = (e i).place_1 }; a = record { 0 = a_of (e i).row_1 }; b = record { 0 = b_of (e i).row_1 }; c = record { 0 = c_of (e i).row_1 } };
      later = record { place = record { 0 = (e i).place_2 }; a = record { 0 = a_of (e i).row_2 }; b = record { 0 = b_of (e i).row_2 }; c = record { 0 = c_of (e i).row_2 } };
    }

-- no second outcome of asking for a record
pub next_one : {b : List ℕ} {at : ℕ} {a₁ a₂ : Next} → NextRecord b at a₁ → NextRecord b at a₂ → a₁ ≡ a₂
next_one {at = at} (found {r = r} s m e) (found {r = q} u k d) =
    let o = one_line s u in
    let same : r ≡ q = meant_one (m ∙ ap (λ l. record_at l 0) o ∙ sym k) in
    e ∙ (λ i. Found (same i) (record { at = at + length (line K (map pos (o i))) })) ∙ sym d
next_one (found s m e) (ended h d) = absurd (begun s h)
next_one (found {ns = ns} s m e) (other h none d) = absurd (none ns s)
next_one (ended h e) (found s m d) = absurd (begun s h)
next_one (ended h e) (ended k d) = e ∙ sym d
next_one (ended h e) (other k none d) = absurd (omega (arith, h, k))
next_one (other h none e) (found {ns = ns} s m d) = absurd (none ns s)
next_one (other h none e) (ended k d) = absurd (omega (arith, h, k))
next_one (other h none e) (other k none₂ d) = e ∙ sym d

-- ---- what the answers tell

pub opened_told : {b : List ℕ} {a : Result Heading Refusal} → OpenedLog b a →
    ((r : Refusal) × First (open_refusals b) (Err r) × (told_opened a ≡ answers.refused r))
    ⊎ (First (open_refusals b) (Ok tt) × (n m : ℕ) × Begins LOG b n m × (told_opened a ≡ answers.done (pos n ∷ pos m ∷ pos (length (first_line_lem LOG n m)) ∷ [])))
opened_told (unopened {r = r} f e) = inl (r, f, ap told_opened e)
opened_told (opened {n = n} {m = m} f s e) = inr (f, n, m, s, ap told_opened e)
