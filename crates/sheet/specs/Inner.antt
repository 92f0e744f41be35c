-- What inner functions are asked on and give: no public contract names it.
use Rattle.std.specs.Prelude.{◌≡◌, List, ◌++◌, ℕ, ℤ, length, drop, Result, Ok, Err}
use Rattle.surface.specs.Rows.{rows}
use Rattle.corners.specs.Skin.{Skin}
use Rattle.refusal.specs.First.{First}
use Rattle.refusal.specs.declared.Refusal.{Refusal}
use Rattle.sheet.specs.Outcome.{skin_refusals}

-- they are refused, with nothing written, or put into the lent rooms
pub data Delivered (n m : ℕ) (xs : List ℤ) (t : List ℕ) (troom troom' : List ℕ) (croom croom' : List ℤ) (a : Result (ℕ × ℕ) Refusal) : Type 0 where
  kept : {r : Refusal} → First (skin_refusals troom croom xs t) (Err r) → a ≡ Err r → troom' ≡ troom → croom' ≡ croom → Delivered n m xs t troom troom' croom croom' a
  put : First (skin_refusals troom croom xs t) (Ok tt) → Skin n (rows t) xs → a ≡ Ok (n, m) → troom' ≡ t ++ drop (length t) troom → croom' ≡ xs ++ drop (length xs) croom → Delivered n m xs t troom troom' croom croom' a
