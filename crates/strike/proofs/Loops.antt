-- The loops over a ring, and a row that leaves.
use mathlib.Core.Path.{◌≡◌, refl, ◌∙◌, ap}
use mathlib.Core.Logic.{◌≢◌, ◌⊎◌, inl, inr}
use mathlib.Core.List.Memᴰ
use mathlib.Core.List.{List}
use Prim.Native.Nat.{ℕ, ◌+◌, ◌≤◌, ◌<◌}
use native.Mathlib.Decide.{ℕ_discrete}
use native.Mathlib.Omega.{arith}
use lib.ListN.{length, get_or, set, take, length-set}
use lib.Seq.{take_all, get_or-set_same, get_or-set_other}
use Rattle.surface.specs.Lists.{◌∈◌}
use Rattle.surface.proofs.Flat.{at_place, place_of}
use Rattle.neighbours.proofs.Firsts.{first_split, first_old, first_new}
use Rattle.spots.specs.InnerHeld.{own_place_lem}
use Rattle.strike.specs.InnerStrike.{Inside, Picks, SlotsRenamed}

-- x is a number of l with the property P, or one with it stands in l from place i on
pub data Sought (P : ℕ → Type 0) (l : List ℕ) (i x : ℕ) : Type 0 where
  found : x ∈ l → P x → Sought P l i x
  ahead : (p : ℕ) → i ≤ p → p < length l → P (get_or l p 0) → Sought P l i x

module _ (P : ℕ → Type 0) (l : List ℕ) where
  pub sought_none : (x y : ℕ) → y ∈ l → P y → Sought P l 0 x
  sought_none x y m h = let q = place_of 0 m in ahead q.0 (omega arith) q.1 (rw q.2 h)

  pub sought_more : {i x r a b : ℕ} → i < length l → (a ≡ b → P (get_or l i 0)) → (a ≢ b → ¬ P (get_or l i 0)) → Picks a b (get_or l i 0) x r → Sought P l i x → Sought P l (i + 1) r
  sought_more {i} {x} {r} h y n (inl z) s = rw z.1 (found (at_place l i 0 h) (y z.0))
  sought_more {i} {x} {r} h y n (inr z) s = rw z.1 (go s)
    where
      past : (p : ℕ) → i ≤ p → p < length l → P (get_or l p 0) → Dec (p ≡ i) → Sought P l (i + 1) x
      past p a b q (yes e) = absurd (n z.0 (rw e at q))
      past p a b q (no e) = ahead p (omega arith) b q

      go : Sought P l i x → Sought P l (i + 1) x
      go (found m q) = found m q
      go (ahead p a b q) = past p a b q (ℕ_discrete p i)

  pub sought_end : {i x : ℕ} → length l ≤ i → Sought P l i x → (x ∈ l) × P x
  sought_end h (found m q) = (m, q)
  sought_end h (ahead p a b q) = absurd (omega arith)

-- renaming
pub record Renaming (h₀ ring : List ℕ) (u i : ℕ) (h : List ℕ) : Type 0 where
  pub size : length h ≡ length h₀
  pub there : {x : ℕ} → x ∈ take i ring → get_or h (own_place_lem x) 0 ≡ u
  pub else : (p : ℕ) → ((x : ℕ) → x ∈ take i ring → p ≢ own_place_lem x) → get_or h p 0 ≡ get_or h₀ p 0

pub rename_none : (h ring : List ℕ) (u : ℕ) → Renaming h ring u 0 h
rename_none h ring u = record { size = refl; there = λ m. absurd (Memᴰ.not-nil m); else = λ p n. refl }

pub rename_more : {h₀ ring : List ℕ} {u i : ℕ} {h : List ℕ} → i < length ring → Inside h₀ ring → Renaming h₀ ring u i h → Renaming h₀ ring u (i + 1) (set h (own_place_lem (get_or ring i 0)) u)
rename_more {h₀} {ring} {u} {i} {h} l s g = record {
  size = length-set h (own_place_lem y) u ∙ g.size;
  there = λ {x} m. there x (first_split ring i l m) (ℕ_discrete (own_place_lem x) (own_place_lem y));
  else = λ p n. get_or-set_other h (own_place_lem y) p u 0 (n y (first_new ring i l refl)) ∙ g.else p (λ x m. n x (first_old ring i l m));
}
  where
    y : ℕ
    y = get_or ring i 0

    fits : own_place_lem (get_or ring i 0) < length h
    fits = let q = (s.slots (at_place ring i 0 l)).2 in let z = g.size in omega arith

    there : (x : ℕ) → (x ∈ take i ring) ⊎ (x ≡ get_or ring i 0) → Dec (own_place_lem x ≡ own_place_lem (get_or ring i 0)) → get_or (set h (own_place_lem (get_or ring i 0)) u) (own_place_lem x) 0 ≡ u
    there x m (yes e) = rw e (get_or-set_same h (own_place_lem (get_or ring i 0)) u 0 fits)
    there x (inl m) (no e) = get_or-set_other h (own_place_lem (get_or ring i 0)) (own_place_lem x) u 0 e ∙ g.there m
    there x (inr m) (no e) = absurd (e (ap (λ (z : ℕ). own_place_lem z) m))

pub rename_end : {h₀ ring : List ℕ} {u i : ℕ} {h : List ℕ} → length ring ≤ i → Renaming h₀ ring u i h → SlotsRenamed h₀ ring u h
rename_end {ring = ring} {i = i} l g =
    let a = take_all i ring l in
    record { size = g.size; there = λ {x} m. g.there (rw a m); else = λ p n. g.else p (λ x m. n x (rw a at m)) }
