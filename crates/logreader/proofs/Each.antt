-- A log sheet read record by record: why each answer is the first that holds, and what is put into the room.
use mathlib.Core.Path.{◌≡◌, refl, ◌∙◌, ap}
use mathlib.Core.List.{List, [], ◌∷◌, map}
use Prim.Native.Nat.{ℕ, ◌*◌, ◌≤◌, ◌<◌}
use native.Mathlib.Omega.{arith}
use lib.IntN.{pos}
use lib.ListN.{length, length-append, drop, length-drop}
use lib.Seq.{drop_at}
use Rattle.std.specs.Prelude.{Ok, Option, Err}
use Rattle.refusal.specs.First.{First}
use Rattle.refusal.specs.declared.Refusal.{Refusal}
use Rattle.refusal.specs.declared.Refusal.TheVariants.{RoomShort, SheetForm}
use Rattle.refusal.proofs.Laws.{verdicts, all_nor, given_first, passed, passes_none, refused_before, none_yet, ◌nor◌}
use Rattle.record.specs.Layout.{width}
use Rattle.text.specs.declared.Cursor.{Cursor}
use Rattle.lines.specs.Lines.{lines, LineAt}
use Rattle.lines.specs.Inner.{ReadInto}
use Rattle.lines.specs.Kinds.{K}
use Rattle.lines.proofs.Lengths.{lines_length}
use Rattle.reading.specs.Inner.{LinesOf}
use Rattle.heading.specs.declared.Heading.{Heading}
use Rattle.heading.specs.Heading.{most_digits, first_line_lem}
use Rattle.logform.specs.LogSheet.{LOG, most_log_bytes, NoLogSheet}
use Rattle.logform.specs.Inner.{Records, LinesLeft, LogFormRead, BadLogForm, too_long, no_sheet}
use Rattle.logform.proofs.Forming.{no_records, log_form}
use Rattle.logrecords.specs.Outcome.{open_refusals, OpenedLog, unopened, opened}
use Rattle.logsheet.proofs.Reading.{there, counted, no_room, room_enough, put}
use Rattle.logreader.specs.Outcome.{each_refusals, EachRecord, unread, each}

-- not opened, so not read
pub not_opened : {b room : List ℕ} (r : Refusal) → OpenedLog b (Err r) → EachRecord b room room (Err r)
unfolding each_refusals
not_opened {b} r (unopened {r = r'} f e) = let q : r ≡ r' = cc in unread (refused_before verdicts (open_refusals b) _ r' f) (ap Err q) refl
not_opened r (opened f g e) = let z : ◌≡◌ {A = ℕ} 0 1 = cc in absurd (omega arith)

-- opened, with the first line in front of a place
pub record OpenedAt (b : List ℕ) (n m at : ℕ) : Type 0 where
  pub passes : First (open_refusals b) (Ok tt)
  pub first : LineAt most_digits LOG b (pos n ∷ pos m ∷ []) (drop at b)

pub opened_there : {b : List ℕ} (h : Heading) → OpenedLog b (Ok h) → OpenedAt b h.corners h.rows h.after.at
opened_there h (unopened f e) = let z : ◌≡◌ {A = ℕ} 0 1 = cc in absurd (omega arith)
opened_there {b} h (opened {n = n} {m = m} f g e) =
    let z = length (first_line_lem LOG n m) in
    let q : h ≡ record { corners = n; rows = m; after = record { at = z } } = cc in
    let d : drop z b ≡ g.rest = ap (drop z) g.line.bytes ∙ drop_at (first_line_lem LOG n m) g.rest z refl in
    rw q (record { passes = f; first = rw d g.line })

module _ {b : List ℕ} {n m at : ℕ} (o : OpenedAt b n m at) where
  size : length b ≤ most_log_bytes
  unfolding open_refusals
  size = let h = (passed verdicts _ _ o.passes).0 in omega arith

  none_there : ((k : ℕ) (log : List ℕ) → ¬ Records k (drop at b) log) → NoLogSheet b
  none_there none = go (no_records size at o.first none)
    where
      go : BadLogForm b → NoLogSheet b
      go (too_long h) = absurd (omega (arith, size))
      go (no_sheet s h) = h

  pub other_follows : {room : List ℕ} → ((k : ℕ) (log : List ℕ) → ¬ Records k (drop at b) log) → EachRecord b room room (Err SheetForm)
  unfolding each_refusals
  other_follows none = unread (given_first verdicts (all_nor ((passes_none verdicts _).0 o.passes) none_yet) (none_there none)) refl refl

  module _ {k : ℕ} (l : LinesLeft k (drop at b)) where
    form : LogFormRead b n m k at
    form = log_form size at o.first l

    -- each line took a byte at least
    pub few_records : k ≤ most_log_bytes
    few_records =
        let e = ap length l.are.lines.bytes in
        omega (arith, size, length-append (lines K width k (map pos l.log)) [], lines_length K width k (map pos l.log), length-drop at b)

    pub room_short : {room : List ℕ} → length room < k * width → EachRecord b room room (Err RoomShort)
    unfolding each_refusals
    room_short h = unread (given_first verdicts (all_nor ((passes_none verdicts _).0 o.passes) (there form nor none_yet)) (no_room form h)) refl refl

    pub each_done : {room room' : List ℕ} (p : Option Cursor) → ReadInto (LinesOf pos most_digits K width k (drop at b)) (k * width) b room 0 room' p → k * width ≤ length room → EachRecord b room room' (Ok (record { corners = n; rows = m; records = k }))
    unfolding each_refusals
    each_done {room} p q h = each ((passes_none verdicts _).1 (all_nor ((passes_none verdicts _).0 o.passes) (there form nor room_enough form h nor none_yet))) form.sheet (ap (λ (j : ℕ). Ok (record { corners = n; rows = m; records = j })) (counted form)) (put form room p q h)
