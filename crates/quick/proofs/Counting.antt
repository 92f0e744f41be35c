-- Counts with one more, and with one less.
use mathlib.Core.Path.{◌≡◌, refl, ap}
use mathlib.Core.Logic.{◌≢◌, ◌⊎◌, inl, inr}
use mathlib.Core.List.Memᴰ
use mathlib.Core.List.{List, ◌∷◌, filter}
use Prim.Native.Nat.{ℕ, suc}
use native.Mathlib.Decide.{ℕ_discrete}
use native.Mathlib.Omega.{arith}
use lib.ListN.{length}
use Rattle.surface.specs.Lists.{◌∈◌, more, Exactly}
use Rattle.surface.proofs.Count.{distinct_filter}
use Rattle.surface.proofs.Renumber.{filter_in, filter_out}
use Rattle.surface.proofs.Main.{counts_one}

-- those with the property P that are not u, and u with them
pub one_over : {P : ℕ → Type 0} {u k : ℕ} → P u → Exactly (λ w. P w × (w ≢ u)) k → Exactly P (suc k)
one_over {P} {u} {k} p c = record {
  list = u ∷ c.list;
  distinct = more (λ m. (c.only m).1 refl) c.distinct;
  all = λ {a} z. all a z (ℕ_discrete a u);
  only = λ {a} m. only a (Memᴰ.cases_cons m);
  count = ap suc c.count;
}
  where
    all : (a : ℕ) → P a → Dec (a ≡ u) → a ∈ u ∷ c.list
    all a z (yes e) = Memᴰ.head e
    all a z (no e) = Memᴰ.tail (c.all (z, e))

    only : (a : ℕ) → (a ≡ u) ⊎ (a ∈ c.list) → P a
    only a (inl e) = rw e p
    only a (inr m) = (c.only m).0

other? : (u a : ℕ) → Dec (a ≢ u)
other? u a = go (ℕ_discrete a u)
  where
    go : Dec (a ≡ u) → Dec (a ≢ u)
    go (yes e) = no (λ n. n e)
    go (no e) = yes e

-- and without it
pub one_less : {P : ℕ → Type 0} {u : ℕ} (k : ℕ) → P u → Exactly P (suc k) → Exactly (λ w. P w × (w ≢ u)) k
one_less {P} {u} k p c = let e : length l ≡ k = (let z = counts_one (one_over p rest) c in omega arith) in rw e at rest
  where
    l : List ℕ
    l = filter (other? u) c.list

    rest : Exactly (λ w. P w × (w ≢ u)) (length l)
    rest = record {
      list = l;
      distinct = distinct_filter (other? u) c.distinct;
      all = λ {a} z. filter_in (other? u) c.list (c.all z.0) z.1;
      only = λ {a} m. let z = filter_out (other? u) c.list m in (c.only z.0, z.1);
      count = refl;
    }
