-- What a recovery comes to that is done, and one that stopped at a record: the records kept and the stage that they lead to, by name.
use Rattle.std.specs.Prelude.{◌≡◌, List, ◌∷◌, ◌++◌, ℕ, ◌+◌, ◌%◌, ℤ, length, take, drop, Option, Ok}
use Rattle.surface.specs.Rows.{Row, rows}
use Rattle.surface.specs.Record.{Record, Replays, Replayed}
use Rattle.corners.specs.Skin.{Skin}
use Rattle.faults.specs.Counts.{corners}
use Rattle.run.specs.Run.{Run}
use Rattle.record.specs.Layout.{count, records, log_of, room_for}
use Rattle.record.specs.Front.{zeroed}
use Rattle.least.specs.Limited.{Allowed}
use Rattle.thin.specs.Order.{Asked}
use Rattle.logcut.specs.Cut.{CutOf}

-- done: the records kept lead from the first skin to the stage handed over, and the run goes on from it to where no edge qualifies; its last stage stands
-- in the table, the records kept and those added in the log
pub record RecoveryOf (a : Asked) (xs : List ℤ) (t l b : List ℕ) (k all : ℕ) (t' l' : List ℕ) : Type 0 where
  pub bound : Option ℕ
  pub kept : List ℕ
  pub handed : List Row
  pub added : List Record
  pub last : List Row
  pub whole : length t % 3 ≡ 0
  pub skin : Skin (corners xs) (rows t) xs
  pub under : a ≡ Ok bound
  pub cut : CutOf b (corners xs) (length (rows t)) kept
  pub led : Replayed (rows t) (records kept) handed
  pub run : Run (Allowed bound xs) handed added last
  pub many : k ≡ count kept
  pub in_all : all ≡ k + length added
  pub table : t' ≡ zeroed last t
  pub logged : l' ≡ kept ++ (log_of added ++ drop (room_for all) l)

-- stopped at 13: the first k records of the whole lines lead to the stage reached, and the next one does not replay there
pub record StoppedOf (xs : List ℤ) (t l b : List ℕ) (k : ℕ) (t' l' : List ℕ) : Type 0 where
  pub log : List ℕ
  pub front : List Record
  pub next : Record
  pub rest : List Record
  pub reached : List Row
  pub whole : length t % 3 ≡ 0
  pub skin : Skin (corners xs) (rows t) xs
  pub cut : CutOf b (corners xs) (length (rows t)) log
  pub parts : records log ≡ front ++ next ∷ rest
  pub many : length front ≡ k
  pub led : Replayed (rows t) front reached
  pub fails : (T : List Row) → ¬ Replays reached next T
  pub table : t' ≡ zeroed reached t
  pub logged : l' ≡ take (room_for k) log ++ drop (room_for k) l
