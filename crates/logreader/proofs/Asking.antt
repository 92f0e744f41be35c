-- What an answer says of the lines at a place.
use mathlib.Core.Path.{◌≡◌, refl, sym, ◌∙◌, ap}
use mathlib.Core.Logic.{inl, inr}
use mathlib.Core.List.{List, [], ◌∷◌, map, append-nil}
use Prim.Native.Nat.{ℕ, ◌+◌}
use native.Mathlib.Omega.{arith}
use types.Run.{OneOf, miss}
use denote.Enum.Declared.{tag_of}
use lib.IntN.{pos}
use lib.ListN.{length, length-append, drop, length-drop}
use lib.Seq.{sets, drop-drop, drop_at}
use Rattle.record.specs.Layout.{width, numbers, record_at, log_of, first_records}
use Rattle.record.specs.declared.Record.{Record}
use Rattle.record.specs.Meant.{meant}
use Rattle.record.proofs.Log.{log_first}
use Rattle.text.specs.declared.Cursor.{Cursor}
use Rattle.lines.specs.Lines.{line}
use Rattle.lines.specs.Kinds.{K}
use Rattle.lines.specs.Inner.{PutFrom}
use Rattle.lines.proofs.Lengths.{line_length}
use Rattle.reading.specs.Inner.{LineOf}
use Rattle.heading.specs.Heading.{most_digits}
use Rattle.logform.specs.Inner.{RecordAt, LinePassed}
use Rattle.logrecords.specs.declared.Next.{Next}
use Rattle.logrecords.specs.declared.Next.TheVariants.{Found, End, Bad}
use Rattle.logrecords.specs.contracts.Next.{the_type}
use Rattle.logrecords.specs.Outcome.{LineStands, NextRecord, found, ended, other}
use Rattle.logreader.specs.declared.Answered.{Answered}
use Rattle.logreader.specs.Outcome.{place_after, AnsweredAt}

-- the numbers of a record's line are the record's
own_numbers : (ns : List ℕ) → length ns ≡ width → numbers (record_at ns 0) ≡ ns
unfolding log_of first_records
own_numbers ns h = sym (append-nil (numbers (record_at ns 0))) ∙ log_first 1 ns (omega arith)

-- what follows a record's line
after_line : {b : List ℕ} {at : ℕ} {ns : List ℕ} (s : LineStands b at ns) → drop (at + length (line K (map pos ns))) b ≡ s.after
after_line {b} {at} {ns} s = let z = length (line K (map pos ns)) in sym (drop-drop z at b) ∙ ap (drop z) s.line.bytes ∙ drop_at (line K (map pos ns)) s.after z refl

-- the line of a record that was answered, up to where the reader stands then, and its numbers
pub record FoundLine (b : List ℕ) (at : ℕ) (r : Record) (to : ℕ) : Type 0 where
  pub passed : LinePassed (drop at b) (drop to b)
  pub told : numbers (meant r) ≡ passed.ns

pub found_line : {b : List ℕ} {at : ℕ} {a : Answered} (r : Record) (c : Cursor) → AnsweredAt b at a → a.next ≡ Found r c → FoundLine b at r a.at
found_line {b} {at} {a} r c w f = go w.answer
  where
    go : NextRecord b at a.next → FoundLine b at r a.at
    go (found {ns = ns} {r = x} s m e) =
        let p : a.at ≡ at + length (line K (map pos ns)) = w.kept ∙ ap (λ n. place_after n at) e in
        let q : r ≡ x = cc in
        record { passed = record { ns = ns; count = s.count; here = rw (p, after_line s) s.line }; told = ap numbers (ap meant q ∙ m) ∙ own_numbers ns s.count }
    go (ended h e) = let z : ◌≡◌ {A = ℕ} 0 1 = cc in absurd (omega arith)
    go (other h none e) = let z : ◌≡◌ {A = ℕ} 0 1 = cc in absurd (omega arith)

-- its numbers are put
pub numbers_put : {b : List ℕ} {at to : ℕ} {r : Record} (room room' : List ℕ) (start : ℕ) → FoundLine b at r to → room' ≡ sets room start (numbers (meant r)) →
    PutFrom (LineOf pos most_digits K (drop at b)) width room start room' (drop to b)
numbers_put room room' start l put = let p = l.passed in record { zs = p.ns; count = p.count; here = p.here; put = put ∙ ap (sets room start) l.told }

-- an answer that is not the first of the three is no record
pub unfound : (a : Next) → OneOf (1 ∷ 2 ∷ []) (tag_of the_type a) → (r : Record) (c : Cursor) → ¬ (a ≡ Found r c)
unfound (Found r' c') k r c e = miss (1 ∷ 2 ∷ []) 0 tt k
unfound (End c') k r c e = let z : ◌≡◌ {A = ℕ} 0 1 = cc in omega arith
unfound Bad k r c e = let z : ◌≡◌ {A = ℕ} 0 1 = cc in omega arith

-- and one that is no record is one of the other two
pub later_tag : (a : Next) → ((r : Record) (c : Cursor) → ¬ (a ≡ Found r c)) → OneOf (1 ∷ 2 ∷ []) (tag_of the_type a)
later_tag (Found r c) n = absurd (n r c refl)
later_tag (End c) n = inl refl
later_tag Bad n = inr refl

-- no record is found where no line of one stands
pub no_line : {b : List ℕ} {at : ℕ} {a : Next} → NextRecord b at a → OneOf (1 ∷ 2 ∷ []) (tag_of the_type a) → (ns r : List ℕ) → length ns ≡ width → ¬ RecordAt (drop at b) ns r
no_line (found s m e) k ns r n here = unfound _ k _ _ e
no_line {b} {at} (ended h e) k ns r n here =
    let f = ap length here.bytes in
    omega (arith, length-append (line K (map pos ns)) r, line_length K (map pos ns), length-drop at b)
no_line (other h none e) k ns r n here = none ns (record { count = n; after = r; line = here })
