-- What a record says of x and y: "the row with the directed edge kept to removed has the third corner x, and the other leaving row y".
use Rattle.std.specs.Prelude.{ℕ, Option, Some, None}
use Rattle.surface.specs.Rows.{Row, row, Turned}
use Rattle.growth.specs.Grow as grow
use Rattle.record.specs.declared.Corner.{Corner}
use Rattle.record.specs.declared.Leaving.{Leaving}

-- the row of a leaving row
abbrev pub row_of : Leaving → Row
row_of r = row r.a.0 r.b.0 r.c.0

-- the third corner of a row that has the directed edge p to q, or that it has none
unfoldable pub ThirdIs : Row → ℕ → ℕ → Option Corner → Type 0
ThirdIs r p q (Some z) = Turned r p q z.0
ThirdIs r p q None = (z : ℕ) → ¬ Turned r p q z

-- x of the row r and y of the row z, or that they have none
unfoldable pub PairIs : ℕ → ℕ → Row → Row → Option (Corner × Corner) → Type 0
PairIs a b r z (Some (x, y)) = Turned r a b x.0 × Turned z b a y.0
PairIs a b r z None = (x y : ℕ) → Turned r a b x → Turned z b a y → ⊥

-- x and y of two rows, whichever is the earlier, or that they have none
unfoldable pub EndsAre : ℕ → ℕ → Row → Row → Option (Corner × Corner) → Type 0
EndsAre a b r₁ r₂ (Some (x, y)) = grow.Ends a b r₁ r₂ x.0 y.0
EndsAre a b r₁ r₂ None = (x y : ℕ) → ¬ grow.Ends a b r₁ r₂ x y
