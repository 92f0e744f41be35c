-- The corners in rising order: the first at which the search finds an edge has the least edge.
use mathlib.Core.Path.{◌≡◌, refl}
use mathlib.Core.List.{List}
use Prim.Native.Nat.{ℕ, ◌≤◌, ◌<◌}
use native.Mathlib.Omega.{arith}
use Rattle.std.specs.Prelude.{Option, Some, None}
use Rattle.surface.specs.Rows.{Row}
use Rattle.surface.specs.Stage.{Stage}
use Rattle.run.specs.Run.{Qualifies, Over}
use Rattle.run.proofs.Main.{least_one}
use Rattle.least.specs.InnerSearch.{FoundLeast}
use Rattle.record.specs.declared.Corner.{Corner}

-- no edge from a corner below a upward qualifies
abbrev pub NoneBelow : (ℕ → ℕ → Type 0) → List Row → ℕ → Type 0
NoneBelow P T a = (c : ℕ) → c < a → (d : ℕ) → ¬ Qualifies P T c d

module _ (P : ℕ → ℕ → Type 0) (T : List Row) (a : ℕ) (none : NoneBelow P T a) where
  pub none_left : (n : ℕ) → Stage n T → n ≤ a → Over P T
  none_left n s h = record { over = λ c d q. let k = s.below q.meets.edge.1 in none c (omega arith) d q }

-- no second answer satisfies the words
pub found_one : (P : ℕ → ℕ → Type 0) (T : List Row) (r s : Option (Corner × Corner)) → FoundLeast P T r → FoundLeast P T s → r ≡ s
found_one P T None None h k = refl
found_one P T None (Some (c, d)) h k = absurd (h.over _ _ k.does)
found_one P T (Some (a, b)) None h k = absurd (k.over _ _ h.does)
found_one P T (Some (a, b)) (Some (c, d)) h k = let e = least_one h k in λ i. Some (same a c e.0 i, same b d e.1 i)
  where
    same : (x y : Corner) → x.0 ≡ y.0 → x ≡ y
    same x y q = λ i. record { 0 = q i }
