-- The rows that leave, by their places: for an edge that meets the condition two, in order, each the row that stands there.
use mathlib.Core.Path.{◌≡◌, refl}
use mathlib.Core.Logic.{ite}
use mathlib.Core.List.{List, [], ◌∷◌, map}
use Prim.Native.Nat.{ℕ, zero, suc, ◌≤◌, ◌<◌}
use native.Mathlib.Omega.{arith}
use lib.ListN.{length, get_or}
use Rattle.surface.specs.Rows.{Row}
use Rattle.surface.specs.Stage.{Stage}
use Rattle.surface.specs.Link.{Meets}
use Rattle.surface.specs.Contract.{Stays, stays?}
use Rattle.surface.specs.Record.{Placed, at, later, leaving}
use Rattle.surface.proofs.Linked.{opposite}
use Rattle.surface.proofs.Leaving.{two_leaving}

-- rows of T at places from k on, in order
pub data Rising (T : List Row) : ℕ → List Placed → Type 0 where
  rising_none : {k : ℕ} → Rising T k []
  rising_more : {k i : ℕ} {r : Row} {l : List Placed} → k ≤ i → i < length T → ((d : Row) → get_or T i d ≡ r) → Rising T (suc i) l → Rising T k (at i r ∷ l)

rising_later : {T : List Row} {k : ℕ} {l : List Placed} (z : Row) → Rising T k l → Rising (z ∷ T) (suc k) (map later l)
unfolding later
rising_later z rising_none = rising_none
rising_later z (rising_more {k = k} {i = j} h i e t) = rising_more {k = suc k} {i = suc j} (omega arith) (omega arith) e (rising_later z t)

rising_down : {T : List Row} {k j : ℕ} {l : List Placed} → j ≤ k → Rising T k l → Rising T j l
rising_down h rising_none = rising_none
rising_down {j = k} h (rising_more {i = j} i b e t) = rising_more {k = k} {i = j} (omega arith) b e t

pub rising : (a b : ℕ) (T : List Row) → Rising T 0 (leaving a b T)
unfolding leaving
rising a b [] = rising_none
rising a b (r ∷ T) = go (stays? a b r) (rising_later r (rising a b T))
  where
    go : (d : Dec (Stays a b r)) → Rising (r ∷ T) 1 (map later (leaving a b T)) → Rising (r ∷ T) 0 (ite {C = List Placed} d (map later (leaving a b T)) (at zero r ∷ map later (leaving a b T)))
    go (yes k) t = rising_down {k = 1} {j = 0} (omega arith) t
    go (no k) t = rising_more {k = 0} {i = 0} (omega arith) (omega arith) (λ d. refl) t

-- the earlier row and the later
pub record Two (T : List Row) (l : List Placed) : Type 0 where
  pub i : ℕ
  pub j : ℕ
  pub r : Row
  pub z : Row
  pub is : l ≡ at i r ∷ at j z ∷ []
  pub order : i < j
  pub inside : j < length T
  pub at_i : (d : Row) → get_or T i d ≡ r
  pub at_j : (d : Row) → get_or T j d ≡ z

pub two_places : (n : ℕ) (T : List Row) (a b : ℕ) → Stage n T → Meets T a b → Two T (leaving a b T)
two_places n T a b s m = let o = opposite n T s m in go (leaving a b T) (rising a b T) (two_leaving n T a b o.0 o.1 s o.2)
  where
    go : (l : List Placed) → Rising T 0 l → length l ≡ 2 → Two T l
    go [] t e = absurd (omega arith)
    go (p ∷ []) t e = absurd (omega arith)
    go (p ∷ q ∷ u ∷ l) t e = absurd (omega arith)
    go (p ∷ q ∷ []) (rising_more {i = i} {r = r} h b k (rising_more {i = j} {r = z} h' b' k' t)) e =
        record { i = i; j = j; r = r; z = z; is = refl; order = h'; inside = b'; at_i = k; at_j = k' }
