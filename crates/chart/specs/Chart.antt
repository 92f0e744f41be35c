-- A flat table with the chains of its slots, as it is read and written; inner.
use Rattle.std.specs.Prelude.{◌≢◌, List, ℕ, suc, ◌<◌, length, get_or, Option, Some, None}
use Rattle.record.specs.declared.Leaving.{Leaving}
use Rattle.slots.specs.Slot.{Whole, Under}
use Rattle.slots.specs.Chain.{Chained}
use Rattle.edges.specs.Sweep.{Found}
use Rattle.chart.specs.Links.{Link, top}

-- whole rows, with a chain for every number
pub record InChains (t last prev : List ℕ) : Type 0 where
  pub whole : Whole t
  pub under : Under t (length last)
  pub chained : Chained t last prev

-- the last slot of the directed edge a to b, or that there is none
abbrev pub SlotIs : List ℕ → ℕ → ℕ → Option ℕ → Type 0
SlotIs t a b (Some e) = Found t a b (suc e)
SlotIs t a b None = Found t a b 0

-- the link x of the chain of u is the one right above the slot e
pub record Above (t : List ℕ) (u e x : ℕ) : Type 0 where
  pub link : Link t u x
  pub over : e < top t x
  pub none : (f : ℕ) → e < f → f < top t x → get_or t f 0 ≢ u

-- the numbers of a row are below n
pub record Numbered (r : Leaving) (n : ℕ) : Type 0 where
  pub a : r.a.0 < n
  pub b : r.b.0 < n
  pub c : r.c.0 < n
