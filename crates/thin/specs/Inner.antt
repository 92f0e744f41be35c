-- What inner functions are asked on and give: no public contract names it.
use Rattle.std.specs.Prelude.{◌≡◌, List, ℕ, ◌≤◌, ℤ, Ok, Result, Some, None, Err}
use Rattle.refusal.specs.declared.Refusal.TheVariants.{LimitUnusable}
use Rattle.refusal.specs.declared.Refusal.{Refusal}
use Rattle.surface.specs.Rows.{rows}
use Rattle.corners.specs.Skin.{Skin}
use Rattle.refusal.specs.First.{First}
use Rattle.faults.specs.Counts.{CountsFitAt, corners}
use Rattle.length.specs.Limit.{most_limit}
use Rattle.thin.specs.Order.{Asked}
use Rattle.thin.specs.Thin.{log_need, thin_refusals}

-- a bound within the most that a limit may be, as the limit reader gives it
abbrev pub Fair : Asked → Type 0
Fair (Ok None) = Unit
Fair (Ok (Some c)) = c ≤ most_limit
Fair (Err e) = e ≡ LimitUnusable

-- the verdict on a thinning: the first that holds; and where none does, a skin
pub record JudgedThinning (a : Asked) (xs : List ℤ) (t : List ℕ) (room : ℕ) (v : Result Unit Refusal) : Type 0 where
  pub holds : First (thin_refusals a xs t room) v
  pub fits : v ≡ Ok tt → CountsFitAt xs t
  pub skin : v ≡ Ok tt → Skin (corners xs) (rows t) xs
  pub usable : v ≡ Ok tt → ¬ (a ≡ Err LimitUnusable)
  pub room_enough : v ≡ Ok tt → log_need xs ≤ room
