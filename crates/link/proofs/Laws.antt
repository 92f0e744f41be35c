-- The ring chooser's words: they leave nothing to choose, and what they tell of the ring chosen.
use mathlib.Core.Path.{◌≡◌, sym, ◌∙◌, ap}
use mathlib.Core.Logic.{inl, inr}
use mathlib.Core.List.{List}
use Prim.Native.Nat.{ℕ, ◌≤◌, ◌<◌}
use native.Mathlib.Omega.{arith}
use lib.ListN.{length}
use denote.Ref.{Bor}
use Rattle.link.specs.Chosen.{Chosen}

-- no second answer satisfies them
pub chosen_one : {a b r s : Bor (List ℕ)} → Chosen a b r → Chosen a b s → r ≡ s
chosen_one (inl h) (inl k) = h.1 ∙ sym k.1
chosen_one (inl h) (inr k) = absurd (omega (arith, h.0, k.0))
chosen_one (inr h) (inl k) = absurd (omega (arith, h.0, k.0))
chosen_one (inr h) (inr k) = h.1 ∙ sym k.1

-- what both rings have the chosen one has
pub chosen_has : {a b r : Bor (List ℕ)} (P : List ℕ → Type 0) → Chosen a b r → P a.now → P b.now → P r.now
chosen_has P (inl h) p q = rw h.1 p
chosen_has P (inr h) p q = rw h.1 q

-- its length tells which of the two it is, so that it has what that one has
module _ {a b r : Bor (List ℕ)} (P : List ℕ → Type 0) where
  pub second_chosen : Chosen a b r → length r.now < length a.now → P b.now → P r.now
  second_chosen (inl h) k p = absurd (omega (arith, ap (λ (x : Bor (List ℕ)). length x.now) h.1))
  second_chosen (inr h) k p = rw h.1 p

  pub first_chosen : Chosen a b r → length a.now ≤ length r.now → P a.now → P r.now
  first_chosen (inl h) k p = rw h.1 p
  first_chosen (inr h) k p = absurd (omega (arith, h.0, ap (λ (x : Bor (List ℕ)). length x.now) h.1))
