-- x and y of a record, from its rows' directed edges.
use mathlib.Core.Path.{◌≡◌}
use Prim.Native.Nat.{ℕ}
use Rattle.std.specs.Prelude.{Option, Some, None}
use Rattle.surface.specs.Rows.{Row, row, Turned, turn_0, turn_1, turn_2}
use Rattle.growth.specs.Grow as grow
use Rattle.growth.specs.Grow.{in_order, crossed}
use Rattle.record.specs.declared.Corner.{Corner}
use Rattle.ends.specs.Rows.{PairIs, EndsAre}

-- a row has the directed edge p to q at one of its three turns
pub no_third : {a b c p q : ℕ} → ¬ ((a ≡ p) × (b ≡ q)) → ¬ ((b ≡ p) × (c ≡ q)) → ¬ ((c ≡ p) × (a ≡ q)) → (z : ℕ) → ¬ Turned (row a b c) p q z
no_third m₀ m₁ m₂ z (turn_0 e) = m₀ (cc, cc)
no_third m₀ m₁ m₂ z (turn_1 e) = m₂ (cc, cc)
no_third m₀ m₁ m₂ z (turn_2 e) = m₁ (cc, cc)

module _ {a b : ℕ} {r z : Row} where
  -- the rows in their order
  -- neither the one way nor the other
  pub no_ends : ((x y : ℕ) → Turned r a b x → Turned z b a y → ⊥) → ((x y : ℕ) → Turned z a b x → Turned r b a y → ⊥) → (x y : ℕ) → ¬ grow.Ends a b r z x y
  no_ends m n x y (in_order t u) = m x y t u
  no_ends m n x y (crossed u t) = n x y t u

  -- the other way, of which a pair or none is known
  pub other_way : (e : Option (Corner × Corner)) → ((x y : ℕ) → Turned r a b x → Turned z b a y → ⊥) → PairIs a b z r e → EndsAre a b r z e
  unfolding PairIs EndsAre
  other_way (Some (x, y)) m p = crossed p.1 p.0
  other_way None m p = no_ends m p
