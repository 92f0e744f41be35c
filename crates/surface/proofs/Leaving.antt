-- The rows that leave a contracted table, as they are listed, and those that stay.
use mathlib.Core.Path.{◌≡◌, refl, sym, ap}
use mathlib.Core.Logic.{◌⊎◌, inl, inr, ite}
use mathlib.Core.List.Memᴰ
use mathlib.Core.List.{List, [], ◌∷◌, ◌++◌, map, filter}
use Prim.Native.Nat.{ℕ, zero, suc, ◌+◌}
use native.Mathlib.Omega.{arith}
use lib.ListN.{length}
use Rattle.surface.specs.Lists.{◌∈◌}
use Rattle.surface.specs.Rows.{Row}
use Rattle.surface.specs.Stage.{Stage}
use Rattle.surface.specs.Link.{Opposite}
use Rattle.surface.specs.Contract.{Stays, stays?, renumber, contract}
use Rattle.surface.specs.Record.{Placed, at, later, leaving}
use Rattle.surface.proofs.Count.{length-map}
use Rattle.surface.proofs.Contracted.{two_leave}

-- a row leaves exactly where it is listed
pub leaving_in : (a b : ℕ) (T : List Row) {r : Row} → r ∈ T → ¬ Stays a b r → (i : ℕ) × (at i r ∈ leaving a b T)
unfolding leaving later
leaving_in a b [] m k = absurd (Memᴰ.not-nil m)
leaving_in a b (z ∷ T) {r} m k = go (stays? a b z) (λ m. leaving_in a b T m k) (Memᴰ.cases_cons m)
  where
    go : (d : Dec (Stays a b z)) → (r ∈ T → (i : ℕ) × (at i r ∈ leaving a b T)) → (r ≡ z) ⊎ (r ∈ T) →
        (i : ℕ) × (at i r ∈ ite {C = List Placed} d (map later (leaving a b T)) (at zero z ∷ map later (leaving a b T)))
    go (yes h) rec (inl e) = absurd (k (rw e h))
    go (no h) rec (inl e) = (zero, Memᴰ.head (ap (at zero) e))
    go (yes h) rec (inr m) = (suc (rec m).0, Memᴰ.map later (rec m).1)
    go (no h) rec (inr m) = (suc (rec m).0, Memᴰ.tail (Memᴰ.map later (rec m).1))

pub at_row : {i j : ℕ} {r z : Row} → at i r ≡ at j z → r ≡ z
at_row e = cc

pub leaving_out : (a b : ℕ) (T : List Row) {i : ℕ} {r : Row} → at i r ∈ leaving a b T → (r ∈ T) × (¬ Stays a b r)
unfolding leaving later
leaving_out a b [] m = absurd (Memᴰ.not-nil m)
leaving_out a b (z ∷ T) {i} {r} m = go (stays? a b z) (λ j m. leaving_out a b T {i = j} m) m
  where
    Rec : Type 0
    Rec = (j : ℕ) → at j r ∈ leaving a b T → (r ∈ T) × (¬ Stays a b r)

    down : Rec → at i r ∈ map later (leaving a b T) → (r ∈ z ∷ T) × (¬ Stays a b r)
    down rec m = found w.0 w.1 w.2
      where
        w : (p : Placed) × (p ∈ leaving a b T) × (later p ≡ at i r)
        w = Memᴰ.of_map later (leaving a b T) m

        found : (p : Placed) → p ∈ leaving a b T → later p ≡ at i r → (r ∈ z ∷ T) × (¬ Stays a b r)
        found (at j q) m e = let k = rec j (Memᴰ.cast (ap (at j) (sym (at_row e))) m) in (Memᴰ.tail k.0, k.1)

    first : ¬ Stays a b z → Rec → (at i r ≡ at zero z) ⊎ (at i r ∈ map later (leaving a b T)) → (r ∈ z ∷ T) × (¬ Stays a b r)
    first h rec (inl e) = let k = at_row e in (Memᴰ.head k, rw k h)
    first h rec (inr m) = down rec m

    go : (d : Dec (Stays a b z)) → Rec → at i r ∈ ite {C = List Placed} d (map later (leaving a b T)) (at zero z ∷ map later (leaving a b T)) → (r ∈ z ∷ T) × (¬ Stays a b r)
    go (yes h) rec m = down rec m
    go (no h) rec m = first h rec (Memᴰ.cases_cons m)

pub leaving_length : (a b : ℕ) (T : List Row) → length (leaving a b T) + length (filter (stays? a b) T) ≡ length T
unfolding leaving
leaving_length a b [] = refl
leaving_length a b (z ∷ T) = go (stays? a b z) (leaving_length a b T)
  where
    m : length (map later (leaving a b T)) ≡ length (leaving a b T)
    m = length-map later (leaving a b T)

    go : (d : Dec (Stays a b z)) → length (leaving a b T) + length (filter (stays? a b) T) ≡ length T →
        length (ite {C = List Placed} d (map later (leaving a b T)) (at zero z ∷ map later (leaving a b T))) + length (ite {C = List Row} d (z ∷ filter (stays? a b) T) (filter (stays? a b) T)) ≡ suc (length T)
    go (yes h) e = let k = m in omega arith
    go (no h) e = let k = m in omega arith

-- two rows are listed
pub two_leaving : (n : ℕ) (T : List Row) (a b x y : ℕ) → Stage n T → Opposite T a b x y → length (leaving a b T) ≡ 2
unfolding contract
two_leaving n T a b x y s o =
    let h : length T ≡ 2 + length (map (renumber a b) (filter (stays? a b) T)) = two_leave n T a b x y s o in
    let k = leaving_length a b T in
    let m = length-map (renumber a b) (filter (stays? a b) T) in
    omega arith

-- row by row, for a loop that writes the rows that stay
pub contract_cons_stays : (a b : ℕ) (r : Row) (T : List Row) → Stays a b r → contract a b (r ∷ T) ≡ renumber a b r ∷ contract a b T
unfolding contract
contract_cons_stays a b r T k = go (stays? a b r)
  where
    go : (d : Dec (Stays a b r)) → map (renumber a b) (ite {C = List Row} d (r ∷ filter (stays? a b) T) (filter (stays? a b) T)) ≡ renumber a b r ∷ contract a b T
    go (yes h) = refl
    go (no h) = absurd (h k)

pub contract_cons_leaves : (a b : ℕ) (r : Row) (T : List Row) → ¬ Stays a b r → contract a b (r ∷ T) ≡ contract a b T
unfolding contract
contract_cons_leaves a b r T k = go (stays? a b r)
  where
    go : (d : Dec (Stays a b r)) → map (renumber a b) (ite {C = List Row} d (r ∷ filter (stays? a b) T) (filter (stays? a b) T)) ≡ contract a b T
    go (yes h) = absurd (k h)
    go (no h) = refl

pub contract_append : (a b : ℕ) (S T : List Row) → contract a b (S ++ T) ≡ contract a b S ++ contract a b T
unfolding contract
contract_append a b [] T = refl
contract_append a b (r ∷ S) T = go (stays? a b r) (contract_append a b S T)
  where
    go : (d : Dec (Stays a b r)) → contract a b (S ++ T) ≡ contract a b S ++ contract a b T →
        map (renumber a b) (ite {C = List Row} d (r ∷ filter (stays? a b) (S ++ T)) (filter (stays? a b) (S ++ T)))
        ≡ map (renumber a b) (ite {C = List Row} d (r ∷ filter (stays? a b) S) (filter (stays? a b) S)) ++ contract a b T
    go (yes h) rec = ap (λ l. renumber a b r ∷ l) rec
    go (no h) rec = rec
