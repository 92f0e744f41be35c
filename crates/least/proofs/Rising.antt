-- The neighbours of a corner in rising order: what trying them tells.
use mathlib.Core.Path.{◌≡◌}
use mathlib.Core.List.{List}
use Prim.Native.Nat.{ℕ, ◌≤◌, ◌<◌}
use native.Mathlib.Decide.{ℕ_discrete}
use native.Mathlib.Omega.{arith}
use Rattle.surface.specs.Lists.{◌∈◌}
use Rattle.surface.specs.Rows.{Row}
use Rattle.run.specs.Run.{Qualifies}
use Rattle.neighbours.specs.Around.{Neighbours}
use Rattle.rising.specs.Next.{IsNext}

-- all edges from a upward to a number up to past are tried and do not qualify
pub record Trying (P : ℕ → ℕ → Type 0) (T : List Row) (a past : ℕ) : Type 0 where
  pub from : a ≤ past
  pub passed : (d : ℕ) → Qualifies P T a d → past < d

module _ {P : ℕ → ℕ → Type 0} {T : List Row} {a : ℕ} where
  module _ {l : List ℕ} (f : Neighbours T a l) {past : ℕ} (g : Trying P T a past) where
    module _ {b : ℕ} (h : IsNext l past b) where
      pub try_least : (d : ℕ) → Qualifies P T a d → b ≤ d
      try_least d q = h.least (f.all q.meets.edge) (g.passed d q)

      pub try_more : ¬ Qualifies P T a b → Trying P T a b
      try_more k = record { from = let z = g.from in let u = h.above in omega arith; passed = λ d q. past_b d q (ℕ_discrete b d) }
        where
          past_b : (d : ℕ) → Qualifies P T a d → Dec (b ≡ d) → b < d
          past_b d q (yes e) = absurd (k (rw e q))
          past_b d q (no e) = let z = try_least d q in omega arith

    pub try_end : ((w : ℕ) → w ∈ l → w ≤ past) → (d : ℕ) → ¬ Qualifies P T a d
    try_end h d q = let z = g.passed d q in let u = h d (f.all q.meets.edge) in omega arith
