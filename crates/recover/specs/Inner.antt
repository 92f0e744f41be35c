-- What inner functions are asked on and give: no public contract names it.
use Rattle.regrow.specs.declared.Halt.{Halt}
use Rattle.regrow.specs.declared.Halt.TheVariants.{Stopped, Refused}
use Rattle.std.specs.Prelude.{◌≡◌, List, ◌++◌, ℕ, ◌+◌, ◌-◌, ◌≤◌, ◌%◌, ℤ, length, take, drop, Ok, Err, Result, Option}
use Rattle.follow.specs.Follow.{Followed}
use Rattle.surface.specs.Limits.{least_corners}
use Rattle.surface.specs.Rows.{Row, rows}
use Rattle.surface.specs.Record.{Record}
use Rattle.surface.specs.InnerStageTable.{StageTable}
use Rattle.corners.specs.Skin.{Skin}
use Rattle.faults.specs.Counts.{corners}
use Rattle.run.specs.Run.{Run}
use Rattle.record.specs.Layout.{count, log_of, room_for, WholeRecords}
use Rattle.record.specs.Front.{zeroed}
use Rattle.least.specs.Limited.{Allowed}
use Rattle.least.specs.Inner.{Measurable}
use Rattle.replay.specs.Outcome.{replaying}

-- how many records were done
abbrev pub done_in_lem : Result ℕ Halt → ℕ
done_in_lem (Ok k) = k
done_in_lem (Err (Stopped k)) = k
done_in_lem (Err (Refused r)) = 0

-- a stage's table, and a log room with room for the records kept
pub record CanHandOver (n : ℕ) (t kept l : List ℕ) : Type 0 where
  pub table : StageTable n t
  pub fits : length kept ≤ length l

-- the records followed; the stage reached in the table, and the records done in front of the log
pub record HandedOver (n : ℕ) (t kept l : List ℕ) (a : Result ℕ Halt) (t' l' : List ℕ) : Type 0 where
  pub state : List Row
  pub reached : Followed (replaying n t kept) a state
  pub table : t' ≡ zeroed state t
  pub logged : l' ≡ take (room_for (done_in_lem a)) kept ++ drop (room_for (done_in_lem a)) l

-- a skin, the records kept of its log, and room for all that may follow
pub record CanRecover (bound : Option ℕ) (xs : List ℤ) (t kept l : List ℕ) : Type 0 where
  pub threes : length t % 3 ≡ 0
  pub skin : Skin (corners xs) (rows t) xs
  pub whole : WholeRecords kept
  pub few : count kept ≤ corners xs - least_corners
  pub room : room_for (corners xs - least_corners) ≤ length l
  pub measurable : Measurable bound (corners xs) xs

-- what following and going on come to
pub data WentOnFrom (bound : Option ℕ) (xs : List ℤ) (t kept l : List ℕ) (r : Result (ℕ × ℕ) Halt) (t' l' : List ℕ) : Type 0 where
  fails : {k : ℕ} {reached : List Row} → Followed (replaying (corners xs) t kept) (Err (Stopped k)) reached →
      r ≡ Err (Stopped k) → t' ≡ zeroed reached t → l' ≡ take (room_for k) kept ++ drop (room_for k) l → WentOnFrom bound xs t kept l r t' l'
  goes_on : {k : ℕ} {handed : List Row} {added : List Record} {last : List Row} → Followed (replaying (corners xs) t kept) (Ok k) handed →
      Run (Allowed bound xs) handed added last → r ≡ Ok (k, k + length added) → t' ≡ zeroed last t →
      l' ≡ kept ++ (log_of added ++ drop (room_for (k + length added)) l) → WentOnFrom bound xs t kept l r t' l'
