-- The contraction of an edge: a is kept, b removed.
use Rattle.std.specs.Prelude.{◌≡◌, ◌≢◌, ℕ}
use Rattle.std.proofs.Math.Logic.{ite}
use mathlib.Core.List.{List, map, filter}
use Rattle.std.proofs.Math.Decide.{ℕ_discrete}
use Rattle.surface.specs.Rows.{Row, row}

-- r holds the number c
pub data Holds : Row → ℕ → Type 0 where
  at_0 : {i j k c : ℕ} → c ≡ i → Holds (row i j k) c
  at_1 : {i j k c : ℕ} → c ≡ j → Holds (row i j k) c
  at_2 : {i j k c : ℕ} → c ≡ k → Holds (row i j k) c

abbrev pub and? : {A B : Type 0} → Dec A → Dec B → Dec (A × B)
and? (yes a) (yes b) = yes (a, b)
and? (yes a) (no nb) = no (λ t. nb t.1)
and? (no na) e = no (λ t. na t.0)

abbrev pub not? : {A : Type 0} → Dec A → Dec (¬ A)
not? (yes a) = no (λ na. na a)
not? (no na) = yes na

unfoldable pub holds? : (r : Row) (c : ℕ) → Dec (Holds r c)
holds? (row i j k) c = go (ℕ_discrete c i) (ℕ_discrete c j) (ℕ_discrete c k)
  where
    none : c ≢ i → c ≢ j → c ≢ k → ¬ Holds (row i j k) c
    none ni nj nk (at_0 e) = ni e
    none ni nj nk (at_1 e) = nj e
    none ni nj nk (at_2 e) = nk e

    go : Dec (c ≡ i) → Dec (c ≡ j) → Dec (c ≡ k) → Dec (Holds (row i j k) c)
    go (yes e) d₁ d₂ = yes (at_0 e)
    go (no n₀) (yes e) d₂ = yes (at_1 e)
    go (no n₀) (no n₁) (yes e) = yes (at_2 e)
    go (no n₀) (no n₁) (no n₂) = no (none n₀ n₁ n₂)

-- rows holding both leave, the others stay
abbrev pub Stays : ℕ → ℕ → Row → Type 0
Stays a b r = ¬ (Holds r a × Holds r b)

unfoldable pub stays? : (a b : ℕ) (r : Row) → Dec (Stays a b r)
stays? a b r = not? (and? (holds? r a) (holds? r b))

-- a for b, any other number for itself
unfoldable pub replace : ℕ → ℕ → ℕ → ℕ
replace a b c = ite {C = ℕ} (ℕ_discrete c b) a c

-- the removed number replaced in its place, the row not turned
unfoldable pub renumber : ℕ → ℕ → Row → Row
renumber a b (row i j k) = row (replace a b i) (replace a b j) (replace a b k)

-- rows holding both leave; the others stay in their order, with the removed number replaced
unfoldable pub contract : ℕ → ℕ → List Row → List Row
contract a b T = map (renumber a b) (filter (stays? a b) T)
