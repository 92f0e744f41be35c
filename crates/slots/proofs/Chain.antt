-- The chains: one turn of filling them, and one step along them.
use mathlib.Core.Path.{◌≡◌}
use mathlib.Core.List.{List}
use Prim.Native.Nat.{ℕ, ◌-◌, ◌<◌, ◌%◌}
use native.Mathlib.Omega.{arith}
use lib.ListN.{length, get_or}
use Rattle.surface.specs.Rows.{rows}
use Rattle.surface.specs.Table.{Used}
use Rattle.slots.specs.Chain.{Last}
use Rattle.slots.proofs.Slots.{follows_at, at_used}

-- the chains of the slots below i
pub record Filling (t last prev : List ℕ) (i : ℕ) : Type 0 where
  pub heads : (v : ℕ) → v < length last → Last t v i (get_or last v 0)
  pub links : (e : ℕ) → e < i → Last t (get_or t e 0) e (get_or prev e 0)

-- a corner with no last slot is unused, and one with a last slot is used
module _ (t : List ℕ) (w : length t % 3 ≡ 0) where
  pub no_last_unused : (v : ℕ) → Last t v (length t) 0 → ¬ Used (rows t) v
  no_last_unused v l u = let a = follows_at t w u.1.1 in l.miss a.e (omega arith) a.inside a.is_v

  pub last_used : (v x : ℕ) → Last t v (length t) x → (x ≡ 0 → ⊥) → Used (rows t) v
  last_used v x l k =
      let u = l.upto in
      rw (l.hit (omega arith)) at (at_used t w (x - 1) (omega arith))
