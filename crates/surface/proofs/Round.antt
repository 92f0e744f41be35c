-- What follows what round a corner, as a list; and the numbers below n, as a list.
use mathlib.Core.Path.{◌≡◌}
use mathlib.Core.Logic.{◌⊎◌, inl, inr}
use mathlib.Core.Bool.{Bool, true, false, cond}
use mathlib.Core.List.Memᴰ
use mathlib.Core.List.{List, [], ◌∷◌}
use Prim.Native.Nat.{ℕ, zero, suc, ◌<◌}
use native.Mathlib.Decide.{ℕ_discrete}
use native.Mathlib.Omega.{arith}
use lib.Dec.{T as So, eqb, eqb→eq, eqb_refl}
use Rattle.surface.specs.Lists.{◌∈◌}
use Rattle.surface.specs.Rows.{Row, row, Turned, turn_0, turn_1, turn_2}
use Rattle.surface.specs.Table.{Follows, Arrow, ◌⇒◌}
use Rattle.surface.proofs.Once.{follows_head, follows_tail, follows_cons}

abbrev add : Bool → Arrow → List Arrow → List Arrow
add b a l = cond b (a ∷ l) l

add_out : (b : Bool) {a z : Arrow} {l : List Arrow} → z ∈ add b a l → (So b × (z ≡ a)) ⊎ (z ∈ l)
add_out true m = elim (Memᴰ.cases_cons m) [ inl e ↦ inl (tt, e) | inr k ↦ inr k ]
add_out false m = inr m

add_old : (b : Bool) (a : Arrow) {z : Arrow} {l : List Arrow} → z ∈ l → z ∈ add b a l
add_old true a m = Memᴰ.tail m
add_old false a m = m

add_new : (b : Bool) {a z : Arrow} (l : List Arrow) → So b → z ≡ a → z ∈ add b a l
add_new true l h e = Memᴰ.head e
add_new false l h e = absurd h

-- what follows what round v
abbrev pub round : ℕ → List Row → List Arrow
round v [] = []
round v (row i j k ∷ T) = add (eqb v i) (j ⇒ k) (add (eqb v j) (k ⇒ i) (add (eqb v k) (i ⇒ j) (round v T)))

abbrev pub source_of : Arrow → ℕ
source_of (p ⇒ q) = p

pub round_sound : {v p q : ℕ} (T : List Row) → (p ⇒ q) ∈ round v T → Follows T v p q
round_sound {v} {p} {q} [] m = absurd (Memᴰ.not-nil m)
round_sound {v} {p} {q} (row i j k ∷ T) m = at_i (λ m. round_sound T m) (add_out (eqb v i) m)
  where
    at_k : ((p ⇒ q) ∈ round v T → Follows T v p q) → (So (eqb v k) × ((p ⇒ q) ≡ (i ⇒ j))) ⊎ ((p ⇒ q) ∈ round v T) → Follows (row i j k ∷ T) v p q
    at_k rec (inl h) = let e = eqb→eq v k h.0 in let e₂ = h.1 in follows_head (turn_1 (cc))
    at_k rec (inr m) = follows_tail (rec m)

    at_j : ((p ⇒ q) ∈ round v T → Follows T v p q) → (So (eqb v j) × ((p ⇒ q) ≡ (k ⇒ i))) ⊎ ((p ⇒ q) ∈ add (eqb v k) (i ⇒ j) (round v T)) → Follows (row i j k ∷ T) v p q
    at_j rec (inl h) = let e = eqb→eq v j h.0 in let e₂ = h.1 in follows_head (turn_2 (cc))
    at_j rec (inr m) = at_k rec (add_out (eqb v k) m)

    at_i : ((p ⇒ q) ∈ round v T → Follows T v p q) → (So (eqb v i) × ((p ⇒ q) ≡ (j ⇒ k))) ⊎ ((p ⇒ q) ∈ add (eqb v j) (k ⇒ i) (add (eqb v k) (i ⇒ j) (round v T))) → Follows (row i j k ∷ T) v p q
    at_i rec (inl h) = let e = eqb→eq v i h.0 in let e₂ = h.1 in follows_head (turn_0 (cc))
    at_i rec (inr m) = at_j rec (add_out (eqb v j) m)

eq_so : (v i : ℕ) → v ≡ i → So (eqb v i)
eq_so v i e = rw e (eqb_refl i)

pub round_whole : {v p q : ℕ} (T : List Row) → Follows T v p q → (p ⇒ q) ∈ round v T
round_whole {v} {p} {q} [] f = absurd (Memᴰ.not-nil f.here)
round_whole {v} {p} {q} (row i j k ∷ T) f = go (follows_cons f) (λ f. round_whole T f)
  where
    go : Turned (row i j k) v p q ⊎ Follows T v p q → (Follows T v p q → (p ⇒ q) ∈ round v T) → (p ⇒ q) ∈ round v (row i j k ∷ T)
    go (inl (turn_0 e)) rec = add_new (eqb v i) _ (eq_so v i (cc)) (cc)
    go (inl (turn_1 e)) rec = add_old (eqb v i) (j ⇒ k) (add_old (eqb v j) (k ⇒ i) (add_new (eqb v k) _ (eq_so v k (cc)) (cc)))
    go (inl (turn_2 e)) rec = add_old (eqb v i) (j ⇒ k) (add_new (eqb v j) _ (eq_so v j (cc)) (cc))
    go (inr f) rec = add_old (eqb v i) (j ⇒ k) (add_old (eqb v j) (k ⇒ i) (add_old (eqb v k) (i ⇒ j) (rec f)))

abbrev pub upto : ℕ → List ℕ
upto zero = []
upto (suc n) = n ∷ upto n

pub every_upto : (n v : ℕ) → v < n → v ∈ upto n
every_upto zero v h = absurd (omega arith)
every_upto (suc n) v h = go (ℕ_discrete v n) (λ k. every_upto n v k)
  where
    go : Dec (v ≡ n) → (v < n → v ∈ upto n) → v ∈ upto (suc n)
    go (yes e) rec = Memᴰ.head e
    go (no k) rec = Memᴰ.tail (rec (omega arith))
