-- Words about lists and relations that the definitions of a table use.
use Rattle.std.specs.Prelude.{◌≡◌, ℕ, length}
use mathlib.Core.List.{List, [], ◌∷◌, Memᴰ}

infix 4 ◌∈◌
abbrev pub ◌∈◌ {ℓ} : {A : Type ℓ} → A → List A → Type ℓ
◌∈◌ a l = Memᴰ a l

-- no element occurs twice
pub data Distinct {A : Type 0} : List A → Type 0 where
  none : Distinct []
  more : {a : A} {l : List A} → ¬ (a ∈ l) → Distinct l → Distinct (a ∷ l)

-- there are k things with the property P
pub record Exactly {A : Type 0} (P : A → Type 0) (k : ℕ) : Type 0 where
  pub list : List A
  pub distinct : Distinct list
  pub all : {a : A} → P a → a ∈ list
  pub only : {a : A} → a ∈ list → P a
  pub count : length list ≡ k

-- q is reached from p by steps of R
pub data Reach (R : ℕ → ℕ → Type 0) : ℕ → ℕ → Type 0 where
  stay : {p q : ℕ} → p ≡ q → Reach R p q
  step : {p t q : ℕ} → R p t → Reach R t q → Reach R p q
