-- The Euler number: used corners - edges + rows.
use Rattle.std.specs.Prelude.{◌≡◌, List, ℕ, ◌+◌, ◌<◌, ℤ, pos, ◌-ℤ◌, length}
use Rattle.surface.specs.Lists.{Exactly}
use Rattle.surface.specs.Rows.{Row}
use Rattle.surface.specs.Table.{Arrow, ◌⇒◌, Edge, Used}

-- an edge counted once: from its lower number to its higher
pub data Rises (T : List Row) : Arrow → Type 0 where
  rises : {p q : ℕ} → p < q → Edge T p q → Rises T (p ⇒ q)

-- v used corners and e edges
pub record Counts (T : List Row) (v e : ℕ) : Type 0 where
  pub corners : Exactly (Used T) v
  pub sides : Exactly (Rises T) e

-- χ is the Euler number of T; it may be below zero
pub record Euler (T : List Row) (χ : ℤ) : Type 0 where
  pub v : ℕ
  pub e : ℕ
  pub counts : Counts T v e
  pub is : χ ≡ pos (v + length T) -ℤ pos e
