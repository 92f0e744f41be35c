-- What inner functions are asked on and give: no public contract names it.
use Rattle.std.specs.Prelude.{◌≡◌, List, ℕ, ◌<◌, ℤ, Ok, Result}
use Rattle.refusal.specs.declared.Refusal.{Refusal}
use Rattle.surface.specs.Lists.{◌∈◌}
use Rattle.surface.specs.Record.{Record}
use Rattle.corners.specs.Skin.{InRange}
use Rattle.refusal.specs.First.{First}
use Rattle.record.specs.Layout.{records}
use Rattle.faults.specs.Counts.{corners}
use Rattle.shift.specs.Order.{ShiftFits, shift_refusals}

-- the numbers kept and removed of all records are below the count
pub record BelowIn (n : ℕ) (l : List Record) : Type 0 where
  pub kept : {k : Record} → k ∈ l → k.kept < n
  pub removed : {k : Record} → k ∈ l → k.removed < n

-- none of 2, 4 and 5 holds
pub record Clear (xs : List ℤ) (log : List ℕ) (v : ℕ) : Type 0 where
  pub fits : ShiftFits xs log
  pub in_range : InRange xs
  pub asked : v < corners xs
  pub below : BelowIn (corners xs) (records log)

-- the verdict: the first that holds, or that none does
pub record CheckedShift (xs : List ℤ) (log : List ℕ) (v : ℕ) (a : Result Unit Refusal) : Type 0 where
  pub holds : First (shift_refusals xs log v) a
  pub clear : a ≡ Ok tt → Clear xs log v
