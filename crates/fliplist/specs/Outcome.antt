-- Flipping a list of edges in 02's words: the refusals in their order, or the flips done up to the first refusal and what they leave.
use Rattle.std.specs.Prelude.{◌≡◌, false, List, [], ◌∷◌, ◌++◌, ℕ, ◌*◌, ◌<◌, length, Ok, Err, Result}
use Rattle.follow.specs.Follow.{Call, Outcome}
use Rattle.surface.specs.Rows.{Row, rows, flat}
use Rattle.surface.specs.Table.{Arrow, ◌⇒◌}
use Rattle.surface.specs.Stage.{Stage}
use Rattle.flips.specs.Flip.{Flip, Flips}
use Rattle.refusal.specs.declared.Refusal.{Refusal}
use Rattle.refusal.specs.declared.Refusal.TheVariants.{CountsOutside, RoomShort}
use Rattle.refusal.specs.First.{Refusals, ◌when◌, First}
use Rattle.faults.specs.Counts.{CountsFit}
use Rattle.faults.specs.Order.{row_refusals}
use Rattle.laid.specs.Laid.{count, items, WholeItems, in_front}
use Rattle.flipped.specs.declared.FlipRefusal.{FlipRefusal}
use Rattle.flipped.specs.declared.FlipHalt.{FlipHalt}
use Rattle.flipped.specs.Answer.{flipped}
use Rattle.fliplog.specs.Layout.{edge_list, width, flip_log}
use Rattle.flip.specs.Refused.{FlipRefused}

-- not 2: the table and the corner count are within their limits, and the list is of even length
pub record FlipFits (n : ℕ) (t edges : List ℕ) : Type 0 where
  pub counts : CountsFit n t
  pub whole : WholeItems edge_list edges

-- eight numbers for each listed edge
abbrev pub flip_room : List ℕ → ℕ
flip_room edges = width * count edge_list edges

-- 2, 3, then 5 to 8, 10 and 11 of the table, a stage's
unfoldable pub flip_refusals : ℕ → List ℕ → List ℕ → List ℕ → Refusals
flip_refusals n t edges log =
    (CountsOutside when (¬ FlipFits n t edges))
    ∷ (RoomShort when (length log < flip_room edges))
    ∷ row_refusals false n (rows t)

-- where flips have led: the rows, and the records of the flips done
pub record Reached : Type 0 where
  pub table : List Row
  pub log : List Flip

-- the flip of a listed edge is allowed, and its record comes behind those before it
abbrev pub FlipsOn : Reached → Arrow → Reached → Type 0
FlipsOn s (a ⇒ b) s' = (k : Flip) × Flips s.table a b k s'.table × (s'.log ≡ s.log ++ (k ∷ []))

-- 30 or 31
abbrev pub FlipStops : Reached → Arrow → FlipRefusal → Type 0
FlipStops s (a ⇒ b) r = FlipRefused s.table a b r

-- what is lent to be written
pub record TableAndLog : Type 0 where
  pub table : List ℕ
  pub log : List ℕ

-- flipping a list of edges of the table t over n corners, with the room l for the log
abbrev pub flipping : ℕ → List ℕ → List ℕ → List ℕ → Call Reached Arrow FlipRefusal Refusal (Result ℕ FlipHalt) TableAndLog
flipping n t edges l = record {
  -- the first that holds; where none does, the table is a stage
  Given = λ e. First (flip_refusals n t edges l) (Err e);
  Else = First (flip_refusals n t edges l) (Ok tt) × Stage n (rows t);
  -- "done in order up to the first refusal"
  items = items edge_list edges;
  start = record { table = rows t; log = [] };
  Does = FlipsOn;
  FailsBy = FlipStops;
  answers = flipped;
  -- refused before any flip, nothing is changed; else table and log hold the flips done and no others, and the rest of the log's room is as it was
  lent = record { table = t; log = l };
  left = λ s. record { table = flat s.table; log = in_front flip_log s.log l };
}

-- the answer a to flipping a list, and what then stands in table and log
pub record FlippedAs (n : ℕ) (t edges l : List ℕ) (a : Result ℕ FlipHalt) (t' l' : List ℕ) : Type 0 where
  pub outcome : Outcome (flipping n t edges l) a (record { table = t'; log = l' })
