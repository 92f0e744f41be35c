-- The slots of a table with rows that have left, against the rows that stand.
use mathlib.Core.Path.{◌≡◌, refl, sym, ◌∙◌, ap}
use mathlib.Core.Logic.{◌≢◌, ◌⊎◌, inl, inr, ite}
use mathlib.Core.List.Memᴰ
use mathlib.Core.List.{List, [], ◌∷◌, map}
use Prim.Native.Nat.{ℕ, zero, suc, ◌+◌, ◌*◌, ◌≤◌, ◌<◌, ◌/◌}
use native.Mathlib.Decide.{ℕ_discrete, dec_lt}
use native.Mathlib.Omega.{arith}
use lib.ListN.{length, get_or}
use Rattle.surface.specs.Limits.{most_corners}
use Rattle.surface.specs.Lists.{◌∈◌}
use Rattle.surface.specs.Rows.{Row, row, rows, Turned, turn_0, turn_1, turn_2}
use Rattle.surface.specs.Table.{Follows}
use Rattle.surface.proofs.Flat.{rows_at, at_place}
use Rattle.surface.proofs.Count.{length-map}
use Rattle.surface.proofs.Once.{Once, once_more}
use Rattle.surface.proofs.Following.{stage_once}
use Rattle.slots.specs.Slot.{next_slot, At}
use Rattle.slots.proofs.Slots.{next_0, next_1, next_2, Third, third_0, third_1, third_2, third, next_round, next_inside, whole_rows, follows_at}
use Rattle.spots.specs.InnerSpots.{Spot, live, dead, spot_of, living, live_rows, Slotted}
use Rattle.spots.proofs.Spots.{live_row, not_dead}

pub spot_live : (i j k : ℕ) → i ≢ most_corners → spot_of (row i j k) ≡ live (row i j k)
unfolding spot_of
spot_live i j k n = go (ℕ_discrete i most_corners)
  where
    go : (d : Dec (i ≡ most_corners)) → ite {C = Spot} d dead (live (row i j k)) ≡ live (row i j k)
    go (yes e) = absurd (n e)
    go (no m) = refl

pub spot_dead : (i j k : ℕ) → i ≡ most_corners → spot_of (row i j k) ≡ dead
unfolding spot_of
spot_dead i j k n = go (ℕ_discrete i most_corners)
  where
    go : (d : Dec (i ≡ most_corners)) → ite {C = Spot} d dead (live (row i j k)) ≡ dead
    go (yes e) = refl
    go (no m) = absurd (m n)

pub living_in : (S : List Spot) {r : Row} → live r ∈ S → r ∈ living S
unfolding living
living_in [] m = absurd (Memᴰ.not-nil m)
living_in (live z ∷ S) {r} m = go (λ m. living_in S m) (Memᴰ.cases_cons m)
  where
    go : (live r ∈ S → r ∈ living S) → (live r ≡ live z) ⊎ (live r ∈ S) → r ∈ z ∷ living S
    go rec (inl e) = Memᴰ.head (live_row e)
    go rec (inr m) = Memᴰ.tail (rec m)
living_in (dead ∷ S) {r} m = go (λ m. living_in S m) (Memᴰ.cases_cons m)
  where
    go : (live r ∈ S → r ∈ living S) → (live r ≡ dead) ⊎ (live r ∈ S) → r ∈ living S
    go rec (inl e) = absurd (not_dead (sym e))
    go rec (inr m) = rec m

living_out : (R : List Row) {r : Row} → r ∈ living (map spot_of R) → (r ∈ R) × (spot_of r ≡ live r)
unfolding living
living_out [] m = absurd (Memᴰ.not-nil m)
living_out (row i j k ∷ R) {r} m = go (λ m. living_out R m) (ℕ_discrete i most_corners) m
  where
    go : (r ∈ living (map spot_of R) → (r ∈ R) × (spot_of r ≡ live r)) → Dec (i ≡ most_corners) → r ∈ living (spot_of (row i j k) ∷ map spot_of R) → (r ∈ row i j k ∷ R) × (spot_of r ≡ live r)
    go rec (yes e) m = let z = rec (rw (spot_dead i j k e) at m) in (Memᴰ.tail z.0, z.1)
    go rec (no e) m = at_head (Memᴰ.cases_cons (rw (spot_live i j k e) at m))
      where
        at_head : (r ≡ row i j k) ⊎ (r ∈ living (map spot_of R)) → (r ∈ row i j k ∷ R) × (spot_of r ≡ live r)
        at_head (inl h) = (Memᴰ.head h, rw h (spot_live i j k e))
        at_head (inr h) = let z = rec h in (Memᴰ.tail z.0, z.1)

pub get_or_spots : (R : List Row) (i : ℕ) (d : Row) → i < length R → get_or (map spot_of R) i dead ≡ spot_of (get_or R i d)
get_or_spots [] i d h = absurd (omega arith)
get_or_spots (r ∷ R) zero d h = refl
get_or_spots (r ∷ R) (suc i) d h = get_or_spots R i d (omega arith)

-- no directed edge is in two spots
pub spots_differ : (S : List Spot) → (i j : ℕ) → Once (living S) → {v p q q' : ℕ} {r z : Row} → i < j → get_or S i dead ≡ live r → get_or S j dead ≡ live z → Turned r v p q → ¬ Turned z v p q'
unfolding living
spots_differ [] i j o h ei ej a b = not_dead ei
spots_differ (dead ∷ S) zero j o h ei ej a b = not_dead ei
spots_differ (dead ∷ S) (suc i) zero o h ei ej a b = omega arith
spots_differ (dead ∷ S) (suc i) (suc j) o h ei ej a b = spots_differ S i j o (omega arith) ei ej a b
spots_differ (live x ∷ S) zero zero o h ei ej a b = omega arith
spots_differ (live x ∷ S) zero (suc j) (once_more f o) {v} {p} {q} {q'} {r} {z} h ei ej a b =
    f v p q (rw (sym (live_row ei)) at a) (q', record { by = z; here = living_in S (at_spot S j ej); turned = b })
  where
    at_spot : (S : List Spot) (j : ℕ) → get_or S j dead ≡ live z → live z ∈ S
    at_spot [] j e = absurd (not_dead e)
    at_spot (x ∷ S) zero e = Memᴰ.head (sym e)
    at_spot (x ∷ S) (suc j) e = Memᴰ.tail (at_spot S j e)
spots_differ (live x ∷ S) (suc i) zero o h ei ej a b = omega arith
spots_differ (live x ∷ S) (suc i) (suc j) (once_more f o) h ei ej a b = spots_differ S i j o (omega arith) ei ej a b

module _ {n : ℕ} (t : List ℕ) (s : Slotted n t) where
  abbrev pub T : List Row
  T = live_rows t

  abbrev pub spots : List Spot
  spots = map spot_of (rows t)

  -- what the rows that stand say, a slot says
  pub live_back : {v p q : ℕ} → Follows T v p q → Follows (rows t) v p q
  unfolding live_rows
  live_back f = record { by = f.by; here = (living_out (rows t) f.here).0; turned = f.turned }

  pub live_slot : {v p q : ℕ} → Follows T v p q → At t v p q
  live_slot f = follows_at t s.whole.threes (live_back f)

  -- a row stands whole or not at all
  pub clean_back : (e : ℕ) → e < length t → get_or t (next_slot e) 0 ≡ most_corners → get_or t e 0 ≡ most_corners
  clean_back e h k =
      let h₁ = next_inside (length t) e s.whole.threes h in
      let h₂ = next_inside (length t) (next_slot e) s.whole.threes h₁ in
      rw (next_round e) at (s.clean (next_slot (next_slot e)) h₂ (s.clean (next_slot e) h₁ k))

  -- the row of a slot that holds a corner stands
  pub row_live : (e : ℕ) → e < length t → get_or t e 0 ≢ most_corners → get_or t (3 * (e / 3)) 0 ≢ most_corners
  row_live e h k z = go (third e)
    where
      go : Third e → ⊥
      go (third_0 i q) = let x : 3 * (e / 3) ≡ e = omega arith in k (rw x at z)
      go (third_1 i q) =
          let x : next_slot (3 * (e / 3)) ≡ e = next_0 (e / 3) ∙ omega arith in
          k (rw x at (s.clean (3 * (e / 3)) (omega arith) z))
      go (third_2 i q) =
          let x : next_slot (next_slot (3 * (e / 3))) ≡ e = ap next_slot (next_0 (e / 3)) ∙ next_1 (e / 3) ∙ omega arith in
          let a = s.clean (3 * (e / 3)) (omega arith) z in
          k (rw x at (s.clean (next_slot (3 * (e / 3))) (next_inside (length t) (3 * (e / 3)) s.whole.threes (omega arith)) a))

  abbrev row_here : ℕ → Row
  row_here i = row (get_or t (3 * i) 0) (get_or t (3 * i + 1) 0) (get_or t (3 * i + 2) 0)

  pub spot_at : (i : ℕ) → 3 * i < length t → get_or spots i dead ≡ spot_of (row (get_or t (3 * i) 0) (get_or t (3 * i + 1) 0) (get_or t (3 * i + 2) 0))
  spot_at i h =
      let w = whole_rows t s.whole.threes in
      let th = s.whole.threes in
      let b : i < length (rows t) = omega arith in
      get_or_spots (rows t) i (row 0 0 0) b ∙ ap spot_of (rows_at i t (row 0 0 0) b)

  pub spot_stands : (i : ℕ) → 3 * i < length t → get_or t (3 * i) 0 ≢ most_corners → get_or spots i dead ≡ live (row (get_or t (3 * i) 0) (get_or t (3 * i + 1) 0) (get_or t (3 * i + 2) 0))
  spot_stands i h k = spot_at i h ∙ spot_live _ _ _ k

  -- the row of a slot, turned to it
  pub turned_at : (e : ℕ) → Turned (row (get_or t (3 * (e / 3)) 0) (get_or t (3 * (e / 3) + 1) 0) (get_or t (3 * (e / 3) + 2) 0)) (get_or t e 0) (get_or t (next_slot e) 0) (get_or t (next_slot (next_slot e)) 0)
  turned_at e = go (third e)
    where
      go : Third e → Turned (row (get_or t (3 * (e / 3)) 0) (get_or t (3 * (e / 3) + 1) 0) (get_or t (3 * (e / 3) + 2) 0)) (get_or t e 0) (get_or t (next_slot e) 0) (get_or t (next_slot (next_slot e)) 0)
      go (third_0 i q) = let x : e / 3 ≡ i = omega arith in rw (x, q, next_0 i, next_1 i) (turn_0 refl)
      go (third_1 i q) = let x : e / 3 ≡ i = omega arith in rw (x, q, next_1 i, next_2 i) (turn_2 refl)
      go (third_2 i q) = let x : e / 3 ≡ i = omega arith in rw (x, q, next_2 i, next_0 i) (turn_1 refl)

  module _ (e : ℕ) (h : e < length t) (k : get_or t e 0 ≢ most_corners) where
    pub live_at : get_or spots (e / 3) dead ≡ live (row (get_or t (3 * (e / 3)) 0) (get_or t (3 * (e / 3) + 1) 0) (get_or t (3 * (e / 3) + 2) 0))
    live_at = spot_stands (e / 3) (omega arith) (row_live e h k)

    pub live_follows : Follows T (get_or t e 0) (get_or t (next_slot e) 0) (get_or t (next_slot (next_slot e)) 0)
    unfolding live_rows
    live_follows = record {
      by = row (get_or t (3 * (e / 3)) 0) (get_or t (3 * (e / 3) + 1) 0) (get_or t (3 * (e / 3) + 2) 0);
      here = living_in spots (rw live_at at (at_place spots (e / 3) dead (let w = whole_rows t s.whole.threes in let m = length-map spot_of (rows t) in omega arith)));
      turned = turned_at e;
    }

    pub live_below : get_or t e 0 < n
    live_below = s.stage.below live_follows

  pub slot_below : (e : ℕ) → e < length t → get_or t e 0 ≤ most_corners
  slot_below e h = go (ℕ_discrete (get_or t e 0) most_corners)
    where
      go : Dec (get_or t e 0 ≡ most_corners) → get_or t e 0 ≤ most_corners
      go (yes k) = omega arith
      go (no k) = let b = live_below e h k in let m = s.stage.many in omega arith

  -- two slots of one row
  pub in_row : (e f : ℕ) → e / 3 ≡ f / 3 → (f ≡ e) ⊎ ((f ≡ next_slot e) ⊎ (f ≡ next_slot (next_slot e)))
  in_row e f q = at_e (third e) (third f)
    where
      at_e : Third e → Third f → (f ≡ e) ⊎ ((f ≡ next_slot e) ⊎ (f ≡ next_slot (next_slot e)))
      at_e (third_0 i x) (third_0 j y) = inl (omega arith)
      at_e (third_0 i x) (third_1 j y) = let z : f ≡ 3 * i + 1 = omega arith in inr (inl (rw (x, next_0 i) z))
      at_e (third_0 i x) (third_2 j y) = let z : f ≡ 3 * i + 2 = omega arith in inr (inr (rw (x, next_0 i, next_1 i) z))
      at_e (third_1 i x) (third_1 j y) = inl (omega arith)
      at_e (third_1 i x) (third_2 j y) = let z : f ≡ 3 * i + 2 = omega arith in inr (inl (rw (x, next_1 i) z))
      at_e (third_1 i x) (third_0 j y) = let z : f ≡ 3 * i = omega arith in inr (inr (rw (x, next_1 i, next_2 i) z))
      at_e (third_2 i x) (third_2 j y) = inl (omega arith)
      at_e (third_2 i x) (third_0 j y) = let z : f ≡ 3 * i = omega arith in inr (inl (rw (x, next_2 i) z))
      at_e (third_2 i x) (third_1 j y) = let z : f ≡ 3 * i + 1 = omega arith in inr (inr (rw (x, next_2 i, next_0 i) z))

  -- a row that stands holds a corner at one slot
  pub row_one_slot : (e f : ℕ) → e < length t → get_or t e 0 ≢ most_corners → e / 3 ≡ f / 3 → get_or t e 0 ≡ get_or t f 0 → e ≡ f
  row_one_slot e f h l q a = one (in_row e f q)
    where
      apart : get_or t e 0 ≢ get_or t (next_slot e) 0
      apart = s.stage.apart (live_follows e h l)

      apart₂ : get_or t (next_slot (next_slot e)) 0 ≢ get_or t e 0
      apart₂ z = s.stage.apart (live_follows (next_slot (next_slot e)) h₂ (λ y. l (sym z ∙ y))) (z ∙ ap (λ (y : ℕ). get_or t y 0) (sym (next_round e)))
        where
          h₂ : next_slot (next_slot e) < length t
          h₂ = next_inside (length t) (next_slot e) s.whole.threes (next_inside (length t) e s.whole.threes h)

      one : (f ≡ e) ⊎ ((f ≡ next_slot e) ⊎ (f ≡ next_slot (next_slot e))) → e ≡ f
      one (inl z) = sym z
      one (inr (inl z)) = absurd (apart (a ∙ ap (λ (y : ℕ). get_or t y 0) z))
      one (inr (inr z)) = absurd (apart₂ (ap (λ (y : ℕ). get_or t y 0) (sym z) ∙ sym a))

  -- a slot that stands is known by its directed edge
  pub slot_one : (e f : ℕ) → e < length t → f < length t → get_or t e 0 ≢ most_corners → get_or t e 0 ≡ get_or t f 0 → get_or t (next_slot e) 0 ≡ get_or t (next_slot f) 0 → e ≡ f
  unfolding live_rows
  slot_one e f h k l a b = go (dec_lt (e / 3) (f / 3)) (dec_lt (f / 3) (e / 3))
    where
      l' : get_or t f 0 ≢ most_corners
      l' z = l (a ∙ z)

      turned_f : Turned (row_here (f / 3)) (get_or t e 0) (get_or t (next_slot e) 0) (get_or t (next_slot (next_slot f)) 0)
      turned_f = rw (a, b) (turned_at f)

      once : Once (living spots)
      once = stage_once n T s.stage

      go : Dec (e / 3 < f / 3) → Dec (f / 3 < e / 3) → e ≡ f
      go (yes x) y = absurd (spots_differ spots (e / 3) (f / 3) once x (live_at e h l) (live_at f k l') (turned_at e) turned_f)
      go (no x) (yes y) = absurd (spots_differ spots (f / 3) (e / 3) once y (live_at f k l') (live_at e h l) turned_f (turned_at e))
      go (no x) (no y) = row_one_slot e f h l (omega arith) a
