-- A reader asked for the record at its place, and a log sheet read record by record: the refusals in their order, and the whole outcome.
use Rattle.std.specs.Prelude.{◌≡◌, List, [], ◌∷◌, ◌++◌, ℕ, length, drop, Result, Ok, Err}
use Rattle.refusal.specs.First.{Refusals, ◌when◌, First}
use Rattle.refusal.specs.declared.Refusal.{Refusal}
use Rattle.refusal.specs.declared.Refusal.TheVariants.{RoomShort, SheetForm}
use Rattle.record.specs.Layout.{count}
use Rattle.logform.specs.LogSheet.{LogSheetOf, NoLogSheet}
use Rattle.logrecords.specs.declared.Next.{Next}
use Rattle.logrecords.specs.declared.Next.TheVariants.{Found, End, Bad}
use Rattle.logrecords.specs.Outcome.{open_refusals, NextRecord}
use Rattle.logsheet.specs.declared.LogCounts.{LogCounts}
use Rattle.logsheet.specs.Outcome.{NoRoom}
use Rattle.logreader.specs.declared.Reader.{Reader}
use Rattle.logreader.specs.declared.Answered.{Answered}

-- where a reader that stood at a place stands once it was answered so: past the record's line, or where it stood
abbrev pub place_after : Next → ℕ → ℕ
place_after (Found r c) at = c.at
place_after (End c) at = at
place_after Bad at = at

-- the reader r asked for a record is r' after it, and answers a
pub record Asked (r r' : Reader) (a : Next) : Type 0 where
  pub same : r'.bytes ≡ r.bytes
  pub answer : NextRecord r.bytes.now r.at a
  pub place : r'.at ≡ place_after a r.at

-- a reader made at a place of b, asked once: what it answers, and the place that it then keeps
pub record AnsweredAt (b : List ℕ) (at : ℕ) (a : Answered) : Type 0 where
  pub answer : NextRecord b at a.next
  pub kept : a.at ≡ place_after a.next at

-- those of opening: 12 for size and first line, 2 for its counts. Then 12 where no lines of records to the end follow, and 3 for room
unfoldable pub each_refusals : List ℕ → ℕ → Refusals
each_refusals b room = open_refusals b ++ ((SheetForm when NoLogSheet b) ∷ (RoomShort when NoRoom b room) ∷ [])

-- reading a log sheet b record by record with the lent room leaves room', and answers a
pub data EachRecord (b room room' : List ℕ) (a : Result LogCounts Refusal) : Type 0 where
  -- refused: nothing is written
  unread : {r : Refusal} → First (each_refusals b (length room)) (Err r) → a ≡ Err r → room' ≡ room → EachRecord b room room' a
  -- done: the log in front of its room, the rest as it was
  each : {n m : ℕ} {log : List ℕ} → First (each_refusals b (length room)) (Ok tt) → LogSheetOf b n m log → a ≡ Ok (record { corners = n; rows = m; records = count log }) → room' ≡ log ++ drop (length log) room → EachRecord b room room' a
