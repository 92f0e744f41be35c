-- Two rows that leave, found one after the other, are the record of the step.
use mathlib.Core.Path.{◌≡◌, refl, sym, ◌∙◌}
use mathlib.Core.Logic.{◌⊎◌, inl, inr, ite}
use mathlib.Core.List.Memᴰ
use mathlib.Core.List.{List, [], ◌∷◌, map}
use Prim.Native.Nat.{ℕ, zero, suc, ◌+◌, ◌≤◌, ◌<◌}
use native.Mathlib.Omega.{arith}
use lib.ListN.{length, get_or}
use Rattle.surface.specs.Lists.{◌∈◌}
use Rattle.surface.specs.Rows.{Row}
use Rattle.surface.specs.Contract.{Stays, stays?}
use Rattle.surface.specs.Record.{Placed, at, later, leaving}
use Rattle.surface.proofs.TwoPlaces.{Two}
use Rattle.leaving.specs.Leaving.{SomeLeaves, row_at}
use native.Mathlib.Decide.{ℕ_discrete}

-- a row that leaves is in the list of those that leave, with its place
pub leaving_at : (a b : ℕ) (T : List Row) (i : ℕ) (d : Row) → i < length T → ¬ Stays a b (get_or T i d) → at i (get_or T i d) ∈ leaving a b T
unfolding leaving later
leaving_at a b [] i d h k = absurd (omega arith)
leaving_at a b (t ∷ T) zero d h k = go (stays? a b t)
  where
    go : (e : Dec (Stays a b t)) → at zero t ∈ ite {C = List Placed} e (map later (leaving a b T)) (at zero t ∷ map later (leaving a b T))
    go (yes s) = absurd (k s)
    go (no s) = Memᴰ.head refl
leaving_at a b (t ∷ T) (suc i) d h k = go (stays? a b t) (Memᴰ.map later (leaving_at a b T i d (omega arith) k))
  where
    go : (e : Dec (Stays a b t)) → at (suc i) (get_or T i d) ∈ map later (leaving a b T) → at (suc i) (get_or T i d) ∈ ite {C = List Placed} e (map later (leaving a b T)) (at zero t ∷ map later (leaving a b T))
    go (yes s) m = m
    go (no s) m = Memᴰ.tail m

-- where two leave, two in order are those
pub leaving_two : (a b : ℕ) (T : List Row) (i j : ℕ) (d : Row) → Two T (leaving a b T) → i < j → j < length T → ¬ Stays a b (get_or T i d) → ¬ Stays a b (get_or T j d) →
    leaving a b T ≡ at i (get_or T i d) ∷ at j (get_or T j d) ∷ []
leaving_two a b T i j d w h inside ki kj = w.is ∙ go (which i ki (omega arith)) (which j kj inside)
  where
    which : (m : ℕ) → ¬ Stays a b (get_or T m d) → m < length T → (at m (get_or T m d) ≡ at w.i w.r) ⊎ (at m (get_or T m d) ≡ at w.j w.z)
    which m k l = elim (Memᴰ.cases_cons (rw w.is at (leaving_at a b T m d l k))) [ inl e ↦ inl e | inr e ↦ inr (Memᴰ.eq_of_singleton e) ]

    go : (at i (get_or T i d) ≡ at w.i w.r) ⊎ (at i (get_or T i d) ≡ at w.j w.z) → (at j (get_or T j d) ≡ at w.i w.r) ⊎ (at j (get_or T j d) ≡ at w.j w.z) →
        at w.i w.r ∷ at w.j w.z ∷ [] ≡ at i (get_or T i d) ∷ at j (get_or T j d) ∷ []
    go (inl e) (inl f) = let p : i ≡ w.i = cc in let q : j ≡ w.i = cc in absurd (omega arith)
    go (inl e) (inr f) = λ k. sym e k ∷ sym f k ∷ []
    go (inr e) (inl f) = let p : i ≡ w.j = cc in let q : j ≡ w.i = cc in let o = w.order in absurd (omega arith)
    go (inr e) (inr f) = let p : i ≡ w.j = cc in let q : j ≡ w.j = cc in absurd (omega arith)

-- the row at p stays: the one that leaves comes later
pub some_next : {a b : ℕ} {t : List ℕ} {p : ℕ} → SomeLeaves a b t p → Stays a b (row_at t p) → SomeLeaves a b t (p + 1)
some_next {a} {b} {t} {p} w k = go (ℕ_discrete w.place p)
  where
    go : Dec (w.place ≡ p) → SomeLeaves a b t (p + 1)
    go (yes e) = absurd (rw e at w.leaves k)
    go (no n) = let h = w.from in record { place = w.place; from = omega arith; inside = w.inside; leaves = w.leaves }

pub passed_more : {a b : ℕ} (t : List ℕ) {i p : ℕ} → ((q : ℕ) → i ≤ q → q < p → Stays a b (row_at t q)) → Stays a b (row_at t p) → (q : ℕ) → i ≤ q → q < p + 1 → Stays a b (row_at t q)
passed_more {a} {b} t {i} {p} h k q l m = go (ℕ_discrete q p)
  where
    go : Dec (q ≡ p) → Stays a b (row_at t q)
    go (yes e) = rw e k
    go (no n) = h q l (omega arith)
