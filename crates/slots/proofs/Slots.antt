-- Slots of a flat table against its rows: what a slot says, and where what the rows say stands.
use mathlib.Core.Path.{◌≡◌, refl, sym, ◌∙◌, ap₂}
use mathlib.Core.Logic.{◌⊎◌, inl, inr}
use mathlib.Core.List.{List, [], ◌∷◌}
use Prim.Native.Nat.{ℕ, zero, suc, ◌+◌, ◌-◌, ◌*◌, ◌≤◌, ◌<◌, ◌%◌, ◌/◌}
use native.Mathlib.Decide.{ℕ_discrete, dec_lt}
use native.Mathlib.Omega.{arith}
use borrow.Author.Tests.{eq-eqb, ne_eqb}
use lib.ListN.{length, get_or}
use Rattle.surface.specs.Lists.{◌∈◌, Distinct}
use Rattle.surface.specs.Rows.{row, rows, Turned, turn_0, turn_1, turn_2}
use Rattle.surface.specs.Table.{Follows, Edge, Used, ◌⇒◌, edges}
use Rattle.surface.proofs.Flat.{rows_at, at_place, place_of, places_differ}
use Rattle.slots.specs.Slot.{next_slot, Under, At}

pub next_back : (e : ℕ) → e % 3 ≡ 2 → next_slot e ≡ e - 2
unfolding next_slot
next_back e h = rw (eq-eqb (e % 3) 2 h)

pub next_on : (e : ℕ) → (e % 3 ≡ 2 → ⊥) → next_slot e ≡ e + 1
unfolding next_slot
next_on e h = rw (ne_eqb (e % 3) 2 h)

-- the next slot, for omega
pub next_cases : (e : ℕ) → ((e % 3 ≡ 2) × (next_slot e ≡ e - 2)) ⊎ ((e % 3 < 2) × (next_slot e ≡ e + 1))
next_cases e = go (ℕ_discrete (e % 3) 2)
  where
    go : Dec (e % 3 ≡ 2) → ((e % 3 ≡ 2) × (next_slot e ≡ e - 2)) ⊎ ((e % 3 < 2) × (next_slot e ≡ e + 1))
    go (yes h) = inl (h, next_back e h)
    go (no h) = inr (omega arith, next_on e h)

pub next_inside : (n e : ℕ) → n % 3 ≡ 0 → e < n → next_slot e < n
next_inside n e w h = go (next_cases e)
  where
    go : ((e % 3 ≡ 2) × (next_slot e ≡ e - 2)) ⊎ ((e % 3 < 2) × (next_slot e ≡ e + 1)) → next_slot e < n
    go (inl k) = omega arith
    go (inr k) = omega arith

pub third_inside : (n e : ℕ) → n % 3 ≡ 0 → e < n → next_slot (next_slot e) < n
third_inside n e w h = next_inside n (next_slot e) w (next_inside n e w h)

pub next_0 : (i : ℕ) → next_slot (3 * i) ≡ 3 * i + 1
next_0 i = next_on (3 * i) (λ h. omega arith)

pub next_1 : (i : ℕ) → next_slot (3 * i + 1) ≡ 3 * i + 2
next_1 i = next_on (3 * i + 1) (λ h. omega arith) ∙ omega arith

pub next_2 : (i : ℕ) → next_slot (3 * i + 2) ≡ 3 * i
next_2 i = next_back (3 * i + 2) (omega arith) ∙ omega arith

-- the slot e is one of the three of the row e / 3
pub data Third (e : ℕ) : Type 0 where
  third_0 : (i : ℕ) → e ≡ 3 * i → Third e
  third_1 : (i : ℕ) → e ≡ 3 * i + 1 → Third e
  third_2 : (i : ℕ) → e ≡ 3 * i + 2 → Third e

pub third : (e : ℕ) → Third e
third e = go (ℕ_discrete (e % 3) 0) (ℕ_discrete (e % 3) 1)
  where
    go : Dec (e % 3 ≡ 0) → Dec (e % 3 ≡ 1) → Third e
    go (yes h) k = third_0 (e / 3) (omega arith)
    go (no h) (yes k) = third_1 (e / 3) (omega arith)
    go (no h) (no k) = third_2 (e / 3) (omega arith)

pub next_round : (e : ℕ) → next_slot (next_slot (next_slot e)) ≡ e
next_round e = go (third e)
  where
    go : Third e → next_slot (next_slot (next_slot e)) ≡ e
    go (third_0 i h) = rw (h, next_0 i, next_1 i, next_2 i)
    go (third_1 i h) = rw (h, next_1 i, next_2 i, next_0 i)
    go (third_2 i h) = rw (h, next_2 i, next_0 i, next_1 i)

pub whole_rows : (t : List ℕ) → length t % 3 ≡ 0 → 3 * length (rows t) ≡ length t
unfolding rows
whole_rows [] h = refl
whole_rows (a ∷ []) h = absurd (omega arith)
whole_rows (a ∷ b ∷ []) h = absurd (omega arith)
whole_rows (a ∷ b ∷ c ∷ t) h = let k = whole_rows t (omega arith) in omega arith

module _ (t : List ℕ) (w : length t % 3 ≡ 0) where
  -- what the rows say of a corner stands at a slot
  pub follows_at : {v p q : ℕ} → Follows (rows t) v p q → At t v p q
  follows_at {v} {p} {q} f =
      let r = place_of (row 0 0 0) f.here in
      let h = r.1 in
      let k = whole_rows t w in
      go r.0 (omega arith) (sym r.2 ∙ rows_at r.0 t (row 0 0 0) h) f.turned
    where
      go : (i : ℕ) → 3 * i + 2 < length t → f.by ≡ row (get_or t (3 * i) 0) (get_or t (3 * i + 1) 0) (get_or t (3 * i + 2) 0) → Turned f.by v p q → At t v p q
      go i small same (turn_0 e) = record { e = 3 * i; inside = omega arith; is_v = cc; is_p = rw (next_0 i) (cc); is_q = rw (next_0 i, next_1 i) (cc) }
      go i small same (turn_1 e) = record { e = 3 * i + 2; inside = small; is_v = cc; is_p = rw (next_2 i) (cc); is_q = rw (next_2 i, next_0 i) (cc) }
      go i small same (turn_2 e) = record { e = 3 * i + 1; inside = omega arith; is_v = cc; is_p = rw (next_1 i) (cc); is_q = rw (next_1 i, next_2 i) (cc) }

  row_in : (i : ℕ) → 3 * i < length t → row (get_or t (3 * i) 0) (get_or t (3 * i + 1) 0) (get_or t (3 * i + 2) 0) ∈ rows t
  row_in i h =
      let k = whole_rows t w in
      let b : i < length (rows t) = omega arith in
      rw (sym (rows_at i t (row 0 0 0) b)) (at_place (rows t) i (row 0 0 0) b)

  -- the slot e says what follows what round its corner
  pub at_follows : (e : ℕ) → e < length t → Follows (rows t) (get_or t e 0) (get_or t (next_slot e) 0) (get_or t (next_slot (next_slot e)) 0)
  at_follows e h = go (third e)
    where
      go : Third e → Follows (rows t) (get_or t e 0) (get_or t (next_slot e) 0) (get_or t (next_slot (next_slot e)) 0)
      go (third_0 i k) = rw (k, next_0 i, next_1 i) (record { by = row (get_or t (3 * i) 0) (get_or t (3 * i + 1) 0) (get_or t (3 * i + 2) 0); here = row_in i (omega arith); turned = turn_0 refl })
      go (third_1 i k) = rw (k, next_1 i, next_2 i) (record { by = row (get_or t (3 * i) 0) (get_or t (3 * i + 1) 0) (get_or t (3 * i + 2) 0); here = row_in i (omega arith); turned = turn_2 refl })
      go (third_2 i k) = rw (k, next_2 i, next_0 i) (record { by = row (get_or t (3 * i) 0) (get_or t (3 * i + 1) 0) (get_or t (3 * i + 2) 0); here = row_in i (omega arith); turned = turn_1 refl })

  pub at_edge : (e : ℕ) → e < length t → Edge (rows t) (get_or t e 0) (get_or t (next_slot e) 0)
  at_edge e h = (get_or t (next_slot (next_slot e)) 0, at_follows e h)

  pub at_used : (e : ℕ) → e < length t → Used (rows t) (get_or t e 0)
  at_used e h = (get_or t (next_slot e) 0, at_edge e h)

-- numbers below n are below what is no less
pub under_more : {t : List ℕ} {n m : ℕ} → Under t n → n ≤ m → Under t m
under_more u h = record { under = λ e i. let k = u.under e i in omega arith }

-- the directed edges of a table stand in the order of its slots
pub edges_length : (t : List ℕ) → length t % 3 ≡ 0 → length (edges (rows t)) ≡ length t
unfolding edges rows
edges_length [] h = refl
edges_length (a ∷ []) h = absurd (omega arith)
edges_length (a ∷ b ∷ []) h = absurd (omega arith)
edges_length (a ∷ b ∷ c ∷ t) h = let k = edges_length t (omega arith) in omega arith

next_suc : (e : ℕ) → next_slot (suc (suc (suc e))) ≡ suc (suc (suc (next_slot e)))
next_suc e = go (next_cases e)
  where
    go : ((e % 3 ≡ 2) × (next_slot e ≡ e - 2)) ⊎ ((e % 3 < 2) × (next_slot e ≡ e + 1)) → next_slot (suc (suc (suc e))) ≡ suc (suc (suc (next_slot e)))
    go (inl k) = let a = k.0 in let b = k.1 in next_back (suc (suc (suc e))) (omega arith) ∙ omega arith
    go (inr k) = let a = k.0 in let b = k.1 in next_on (suc (suc (suc e))) (λ h. omega arith) ∙ omega arith

pub edges_at : (t : List ℕ) (e : ℕ) → length t % 3 ≡ 0 → e < length t → get_or (edges (rows t)) e (0 ⇒ 0) ≡ (get_or t e 0 ⇒ get_or t (next_slot e) 0)
unfolding edges rows next_slot
edges_at [] e w h = absurd (omega arith)
edges_at (a ∷ []) e w h = absurd (omega arith)
edges_at (a ∷ b ∷ []) e w h = absurd (omega arith)
edges_at (a ∷ b ∷ c ∷ t) zero w h = refl
edges_at (a ∷ b ∷ c ∷ t) (suc zero) w h = refl
edges_at (a ∷ b ∷ c ∷ t) (suc (suc zero)) w h = refl
edges_at (a ∷ b ∷ c ∷ t) (suc (suc (suc e))) w h = rw (next_suc e) (edges_at t e (omega arith) (omega arith))

module _ (t : List ℕ) (w : length t % 3 ≡ 0) where
  pub same_edge : (e f : ℕ) → e < length t → f < length t → get_or t e 0 ≡ get_or t f 0 → get_or t (next_slot e) 0 ≡ get_or t (next_slot f) 0 →
      get_or (edges (rows t)) e (0 ⇒ 0) ≡ get_or (edges (rows t)) f (0 ⇒ 0)
  same_edge e f h k a b = edges_at t e w h ∙ ap₂ (λ x y. x ⇒ y) a b ∙ sym (edges_at t f w k)

  -- where each directed edge occurs once, a slot is known by its directed edge
  pub one_slot : Distinct (edges (rows t)) → (e f : ℕ) → e < length t → f < length t → get_or t e 0 ≡ get_or t f 0 → get_or t (next_slot e) 0 ≡ get_or t (next_slot f) 0 → e ≡ f
  one_slot d e f h k a b = go (dec_lt e f) (dec_lt f e)
    where
      go : Dec (e < f) → Dec (f < e) → e ≡ f
      go (yes l) m = let q = edges_length t w in absurd (places_differ (0 ⇒ 0) d e f l (omega arith) (same_edge e f h k a b))
      go (no l) (yes m) = let q = edges_length t w in absurd (places_differ (0 ⇒ 0) d f e m (omega arith) (same_edge f e k h (sym a) (sym b)))
      go (no l) (no m) = omega arith
