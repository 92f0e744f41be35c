-- Reading a log sheet: why each answer is the first that holds, and what is put into the room.
use mathlib.Core.Path.{◌≡◌, sym, ◌∙◌, ap}
use mathlib.Core.List.{List, [], ◌++◌, map}
use Prim.Native.Nat.{ℕ, ◌*◌, ◌≤◌, ◌<◌}
use native.Mathlib.Omega.{arith}
use lib.IntN.{pos}
use lib.ListN.{length, drop, length-map}
use lib.Seq.{sets}
use Rattle.std.specs.Prelude.{Ok, Err, Option, Some, None}
use Rattle.refusal.specs.First.{First}
use Rattle.refusal.specs.declared.Refusal.TheVariants.{CountsOutside, RoomShort, SheetForm}
use Rattle.refusal.proofs.Laws.{verdicts, given_first, passes_none, none_yet, ◌nor◌}
use Rattle.record.specs.Layout.{width, count}
use Rattle.text.specs.declared.Cursor.{Cursor}
use Rattle.lines.specs.Kinds.{K}
use Rattle.lines.specs.Inner.{ReadInto}
use Rattle.lines.proofs.Cut.{lines_unique}
use Rattle.lines.proofs.Plain.{pos_same}
use Rattle.lines.proofs.Turns.{in_front}
use Rattle.reading.specs.Inner.{LinesOf}
use Rattle.heading.specs.Heading.{most_digits}
use Rattle.logform.specs.LogSheet.{most_log_bytes, NoLogSheet, CountsIn}
use Rattle.logform.specs.Inner.{LogFormRead, BadLogForm, too_long, no_sheet}
use Rattle.logform.proofs.Forming.{one_log}
use Rattle.logsheet.specs.Outcome.{CountsOut, NoRoom, read_refusals, ReadLogSheet, read}

pub bad_form : {b : List ℕ} (room : ℕ) → BadLogForm b → First (read_refusals b room) (Err SheetForm)
unfolding read_refusals
bad_form room (too_long h) = given_first verdicts none_yet h
bad_form room (no_sheet size h) = given_first verdicts ((λ k. omega arith) nor none_yet) h

module _ {b : List ℕ} {n m k at : ℕ} (f : LogFormRead b n m k at) where
  not_long : ¬ (most_log_bytes < length b)
  not_long h = let s = f.size in omega arith

  pub there : ¬ NoLogSheet b
  there none = none n m f.log f.sheet

  pub counted : k ≡ count f.log
  counted = let c = f.records.count in omega arith

  pub no_room : {room : ℕ} → room < k * width → NoRoom b room
  no_room h = let e = f.records.count in record { n = n; m = m; log = f.log; sheet = f.sheet; short = omega arith }

  pub room_enough : {room : ℕ} → k * width ≤ room → ¬ NoRoom b room
  room_enough h o =
      let s = one_log f.sheet o.sheet in
      let e = ap length s.numbers in
      let g = f.records.count in
      let q = o.short in
      omega arith

  -- the lines are in their form, so they are read
  pub put : (room : List ℕ) {room' : List ℕ} (p : Option Cursor) → ReadInto (LinesOf pos most_digits K width k (drop at b)) (k * width) b room 0 room' p → k * width ≤ length room → room' ≡ f.log ++ drop (length f.log) room
  unfolding ReadInto
  put room (Some e) q h =
      let u = lines_unique K width k (map pos q.zs) (map pos f.log) (drop e.at b) [] (length-map q.zs pos ∙ q.count) (length-map f.log pos ∙ f.records.count) (sym q.here.bytes ∙ f.records.lines.bytes) in
      let same = pos_same q.zs f.log u.0 in
      let c = f.records.count in
      q.put ∙ ap (λ ns. sets room 0 ns) same ∙ in_front room f.log (omega arith)
  put room None q h = absurd (q f.log [] f.records.count f.records.lines)

  pub counts_out : (room : ℕ) → (¬ CountsIn n m k) → First (read_refusals b room) (Err CountsOutside)
  unfolding read_refusals
  counts_out room h = given_first verdicts (not_long nor there nor none_yet) (record { n = n; m = m; log = f.log; sheet = f.sheet; out = rw counted at h })

  module _ (c : CountsIn n m k) where
    not_out : ¬ CountsOut b
    not_out o =
        let s = one_log f.sheet o.sheet in
        o.out (rw (s.corners, s.rows, ap count s.numbers) at (rw counted at c))

    pub room_short : {room : ℕ} → room < k * width → First (read_refusals b room) (Err RoomShort)
    unfolding read_refusals
    room_short h = given_first verdicts (not_long nor there nor not_out nor none_yet) (no_room h)

    passes : {room : ℕ} → k * width ≤ room → First (read_refusals b room) (Ok tt)
    unfolding read_refusals
    passes h = (passes_none verdicts _).1 (not_long nor there nor not_out nor room_enough h nor none_yet)

    pub read_done : {room room' : List ℕ} (p : Option Cursor) → ReadInto (LinesOf pos most_digits K width k (drop at b)) (k * width) b room 0 room' p → k * width ≤ length room → ReadLogSheet b room room' (Ok (record { corners = n; rows = m; records = k }))
    read_done {room} p q h = read (passes h) f.sheet (ap (λ (j : ℕ). Ok (record { corners = n; rows = m; records = j })) counted) (put room p q h)
