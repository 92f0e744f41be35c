-- Thinning in 01's words: the refusals in their order, or the run and what it leaves.
use Rattle.std.specs.Prelude.{◌≡◌, true, List, ◌∷◌, ◌++◌, ℕ, ◌-◌, ◌<◌, ℤ, length, drop, Ok, Err, Result, Option}
use Rattle.surface.specs.Limits.{least_corners}
use Rattle.surface.specs.Rows.{Row, rows}
use Rattle.surface.specs.Record.{Record}
use Rattle.corners.specs.Skin.{Skin}
use Rattle.refusal.specs.declared.Refusal.{Refusal}
use Rattle.refusal.specs.declared.Refusal.TheVariants.{LimitUnusable, CountsOutside, RoomShort}
use Rattle.refusal.specs.First.{Refusals, ◌when◌, First}
use Rattle.faults.specs.Counts.{CountsFitAt, corners}
use Rattle.faults.specs.Order.{refusals_after_counts}
use Rattle.run.specs.Run.{Run}
use Rattle.record.specs.Layout.{log_of, room_for}
use Rattle.record.specs.Front.{zeroed}
use Rattle.length.specs.declared.Order.{Order}
use Rattle.least.specs.Limited.{Allowed}
use Rattle.thin.specs.Order.{Asked, asked}

-- thinning needs 10 x (corners - 4) log numbers
abbrev pub log_need : List ℤ → ℕ
log_need xs = room_for (corners xs - least_corners)

-- 1, 2, 3, then 4 to 11 of a first table
unfoldable pub thin_refusals : Asked → List ℤ → List ℕ → ℕ → Refusals
thin_refusals a xs t room =
    (LimitUnusable when (a ≡ Err LimitUnusable))
    ∷ (CountsOutside when (¬ CountsFitAt xs t))
    ∷ (RoomShort when (room < log_need xs))
    ∷ refusals_after_counts true xs t

-- the answer r to thinning the table t of the corners xs as a asks, with the log l, and what then stands in table and log
pub data ThinnedAs (a : Asked) (xs : List ℤ) (t l : List ℕ) (r : Result ℕ Refusal) (t' l' : List ℕ) : Type 0 where
  -- thinning refused leaves table and log untouched
  refused : {e : Refusal} → First (thin_refusals a xs t (length l)) (Err e) → r ≡ Err e → t' ≡ t → l' ≡ l → ThinnedAs a xs t l r t' l'
  -- done, the table was a skin, and it leaves the last stage in front, zeros in the rest of the first table's length, and the log past its records untouched
  done : {b : Option ℕ} {log : List Record} {last : List Row} → First (thin_refusals a xs t (length l)) (Ok tt) → Skin (corners xs) (rows t) xs → a ≡ Ok b →
      Run (Allowed b xs) (rows t) log last → r ≡ Ok (length log) → t' ≡ zeroed last t →
      l' ≡ log_of log ++ drop (room_for (length log)) l → ThinnedAs a xs t l r t' l'

-- under an order
abbrev pub Thinned : Order → List ℤ → List ℕ → List ℕ → Result ℕ Refusal → List ℕ → List ℕ → Type 0
Thinned o = ThinnedAs (asked o)
