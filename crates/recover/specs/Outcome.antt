-- Recovery in 02's words: the refusals in their order; or the records of the whole lines followed on the first skin, and the run that goes on from the
-- stage handed over.
use Rattle.regrow.specs.declared.Halt.{Halt}
use Rattle.regrow.specs.declared.Halt.TheVariants.{Stopped, Refused}
use Rattle.std.specs.Prelude.{◌≡◌, List, ◌++◌, ℕ, ◌+◌, ℤ, length, take, drop, Result, Ok, Err, Option}
use Rattle.follow.specs.Follow.{Followed}
use Rattle.surface.specs.Rows.{Row, rows}
use Rattle.surface.specs.Record.{Record}
use Rattle.corners.specs.Skin.{Skin}
use Rattle.refusal.specs.declared.Refusal.{Refusal}
use Rattle.refusal.specs.First.{Refusals, First}
use Rattle.faults.specs.Counts.{corners}
use Rattle.run.specs.Run.{Run}
use Rattle.record.specs.Layout.{log_of, room_for}
use Rattle.record.specs.Front.{zeroed}
use Rattle.length.specs.declared.Order.{Order}
use Rattle.least.specs.Limited.{Allowed}
use Rattle.thin.specs.Order.{Asked, asked}
use Rattle.thin.specs.Thin.{thin_refusals}
use Rattle.replay.specs.Outcome.{replaying}
use Rattle.logcut.specs.Cut.{CutOf, cut_refusals}

-- "01's refusals of order, skin and room come first, then 12, 2"
abbrev pub recover_refusals : Asked → List ℤ → List ℕ → ℕ → List ℕ → Refusals
recover_refusals a xs t room b = thin_refusals a xs t room ++ cut_refusals b (corners xs) (length (rows t))

-- the answer r to recovering, as a asks, the skin with the table t over the corners xs from the bytes b with the log room l, and what then stands in table
-- and room. The records of b's whole lines are followed as replay follows a log
pub data RecoveredAs (a : Asked) (xs : List ℤ) (t l b : List ℕ) (r : Result (ℕ × ℕ) Halt) (t' l' : List ℕ) : Type 0 where
  -- "on all but 13 nothing is changed"
  refused : {e : Refusal} → First (recover_refusals a xs t (length l) b) (Err e) → r ≡ Err (Refused e) → t' ≡ t → l' ≡ l → RecoveredAs a xs t l b r t' l'
  -- "a record that will not replay is 13, as in 01, leaving the stage reached and its records"
  stopped : {log : List ℕ} {k : ℕ} {reached : List Row} → First (recover_refusals a xs t (length l) b) (Ok tt) → Skin (corners xs) (rows t) xs →
      CutOf b (corners xs) (length (rows t)) log → Followed (replaying (corners xs) t log) (Err (Stopped k)) reached →
      r ≡ Err (Stopped k) → t' ≡ zeroed reached t → l' ≡ take (room_for k) log ++ drop (room_for k) l → RecoveredAs a xs t l b r t' l'
  -- all replay: the stage is handed over, and "Recovery then goes on thinning under the order that the caller lends again"
  done : {kept : List ℕ} {k : ℕ} {handed : List Row} {bound : Option ℕ} {added : List Record} {last : List Row} → First (recover_refusals a xs t (length l) b) (Ok tt) →
      Skin (corners xs) (rows t) xs → CutOf b (corners xs) (length (rows t)) kept → Followed (replaying (corners xs) t kept) (Ok k) handed →
      a ≡ Ok bound → Run (Allowed bound xs) handed added last →
      r ≡ Ok (k, k + length added) → t' ≡ zeroed last t → l' ≡ kept ++ (log_of added ++ drop (room_for (k + length added)) l) → RecoveredAs a xs t l b r t' l'

-- under an order
abbrev pub RecoveredBy : Order → List ℤ → List ℕ → List ℕ → List ℕ → Result (ℕ × ℕ) Halt → List ℕ → List ℕ → Type 0
RecoveredBy o = RecoveredAs (asked o)
