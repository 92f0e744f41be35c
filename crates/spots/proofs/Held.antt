-- A table held four places a row, against the flat table that it holds.
use mathlib.Core.Path.{◌≡◌, refl, sym, ◌∙◌, ap}
use mathlib.Core.List.{List, [], ◌∷◌}
use Prim.Native.Nat.{ℕ, zero, suc, ◌+◌, ◌-◌, ◌*◌, ◌<◌, ◌/◌, ◌%◌}
use native.Mathlib.Decide.{ℕ_discrete}
use native.Mathlib.Omega.{arith}
use lib.ListN.{length, get_or}
use Rattle.slots.specs.Slot.{next_slot}
use Rattle.slots.proofs.Slots.{next_0, next_1, next_2, Third, third_0, third_1, third_2, third, next_round, next_inside}
use Rattle.spots.specs.InnerHeld.{flat_of, wide, own, slot_at, after_place, own_place_lem}

pub flat_size : (h : List ℕ) → length h % 4 ≡ 0 → 4 * length (flat_of h) ≡ 3 * length h
unfolding flat_of
flat_size [] w = refl
flat_size (j ∷ []) w = absurd (omega arith)
flat_size (j ∷ k ∷ []) w = absurd (omega arith)
flat_size (j ∷ k ∷ i ∷ []) w = absurd (omega arith)
flat_size (j ∷ k ∷ i ∷ x ∷ h) w = let q = flat_size h (omega arith) in omega arith

pub flat_threes : (h : List ℕ) → length h % 4 ≡ 0 → length (flat_of h) % 3 ≡ 0
unfolding flat_of
flat_threes [] w = refl
flat_threes (j ∷ []) w = absurd (omega arith)
flat_threes (j ∷ k ∷ []) w = absurd (omega arith)
flat_threes (j ∷ k ∷ i ∷ []) w = absurd (omega arith)
flat_threes (j ∷ k ∷ i ∷ x ∷ h) w = let q = flat_threes h (omega arith) in omega arith

-- the three places of a row
abbrev Places : List ℕ → ℕ → Type 0
Places h i = (get_or (flat_of h) (3 * i) 0 ≡ get_or h (4 * i + 2) 0) × (get_or (flat_of h) (3 * i + 1) 0 ≡ get_or h (4 * i) 0) × (get_or (flat_of h) (3 * i + 2) 0 ≡ get_or h (4 * i + 1) 0)

pub places : (h : List ℕ) → length h % 4 ≡ 0 → (i : ℕ) → 4 * i < length h → Places h i
unfolding flat_of
places [] w i l = absurd (omega arith)
places (j ∷ []) w i l = absurd (omega arith)
places (j ∷ k ∷ []) w i l = absurd (omega arith)
places (j ∷ k ∷ a ∷ []) w i l = absurd (omega arith)
places (j ∷ k ∷ a ∷ x ∷ h) w zero l = (refl, refl, refl)
places (j ∷ k ∷ a ∷ x ∷ h) w (suc i) l =
    let e₀ : 3 * suc i ≡ suc (suc (suc (3 * i))) = omega arith in
    let e₁ : suc (suc (suc (3 * i))) + 1 ≡ suc (suc (suc (3 * i + 1))) = omega arith in
    let e₂ : suc (suc (suc (3 * i))) + 2 ≡ suc (suc (suc (3 * i + 2))) = omega arith in
    let f₀ : 4 * suc i ≡ suc (suc (suc (suc (4 * i)))) = omega arith in
    let f₁ : suc (suc (suc (suc (4 * i)))) + 1 ≡ suc (suc (suc (suc (4 * i + 1)))) = omega arith in
    let f₂ : suc (suc (suc (suc (4 * i)))) + 2 ≡ suc (suc (suc (suc (4 * i + 2)))) = omega arith in
    rw (e₀, e₁, e₂, f₀, f₁, f₂) (places h (omega arith) i (omega arith))

pub wide_one : {e f : ℕ} → wide e ≡ wide f → e ≡ f
wide_one q = omega arith

pub own_one : {e f : ℕ} → own e ≡ own f → e ≡ f
own_one {e} {f} q = sym (next_round e) ∙ ap next_slot (wide_one q) ∙ next_round f

module _ (h : List ℕ) (w : length h % 4 ≡ 0) where
  pub wide_inside : {e : ℕ} → e < length (flat_of h) → wide e < length h
  wide_inside l = let q = flat_size h w in omega arith

  pub own_inside : {e : ℕ} → e < length (flat_of h) → own e < length h
  own_inside {e} l = wide_inside (next_inside (length (flat_of h)) (next_slot e) (flat_threes h w) (next_inside (length (flat_of h)) e (flat_threes h w) l))

  -- the number after a slot stands at its wide place
  pub after_at : (e : ℕ) → e < length (flat_of h) → get_or (flat_of h) (next_slot e) 0 ≡ get_or h (wide e) 0
  after_at e l = go (third e)
    where
      go : Third e → get_or (flat_of h) (next_slot e) 0 ≡ get_or h (wide e) 0
      go (third_0 i q) = let s = flat_size h w in let x : wide e ≡ 4 * i = omega arith in rw (x, q, next_0 i) (places h w i (omega arith)).1
      go (third_1 i q) = let s = flat_size h w in let x : wide e ≡ 4 * i + 1 = omega arith in rw (x, q, next_1 i) (places h w i (omega arith)).2
      go (third_2 i q) = let s = flat_size h w in let x : wide e ≡ 4 * i + 2 = omega arith in rw (x, q, next_2 i) (places h w i (omega arith)).0

  -- and its own two slots on
  pub own_at : (e : ℕ) → e < length (flat_of h) → get_or (flat_of h) e 0 ≡ get_or h (own e) 0
  own_at e l =
      let th = flat_threes h w in
      let n = length (flat_of h) in
      ap (λ (z : ℕ). get_or (flat_of h) z 0) (sym (next_round e)) ∙ after_at (next_slot (next_slot e)) (next_inside n (next_slot e) th (next_inside n e th l))

pub narrow_wide : (e : ℕ) → slot_at (wide e) ≡ e
narrow_wide e = go (third e)
  where
    go : Third e → slot_at (wide e) ≡ e
    go (third_0 i q) = let x : wide e ≡ 4 * i = omega arith in rw x (omega arith)
    go (third_1 i q) = let x : wide e ≡ 4 * i + 1 = omega arith in rw x (omega arith)
    go (third_2 i q) = let x : wide e ≡ 4 * i + 2 = omega arith in rw x (omega arith)

pub wide_three : (e : ℕ) → wide e % 4 < 3
wide_three e = go (third e)
  where
    go : Third e → wide e % 4 < 3
    go (third_0 i q) = let x : wide e ≡ 4 * i = omega arith in rw x (omega arith)
    go (third_1 i q) = let x : wide e ≡ 4 * i + 1 = omega arith in rw x (omega arith)
    go (third_2 i q) = let x : wide e ≡ 4 * i + 2 = omega arith in rw x (omega arith)

-- the row of a wide place
pub wide_row : (e : ℕ) → wide e / 4 ≡ e / 3
wide_row e = go (third e)
  where
    go : Third e → wide e / 4 ≡ e / 3
    go (third_0 i q) = let x : wide e ≡ 4 * i = omega arith in rw x (omega arith)
    go (third_1 i q) = let x : wide e ≡ 4 * i + 1 = omega arith in rw x (omega arith)
    go (third_2 i q) = let x : wide e ≡ 4 * i + 2 = omega arith in rw x (omega arith)

-- a place that is not a row's fourth, as its row and its rest
data Of4 (x : ℕ) : Type 0 where
  of_0 : (i : ℕ) → x ≡ 4 * i → slot_at x ≡ 3 * i → Of4 x
  of_1 : (i : ℕ) → x ≡ 4 * i + 1 → slot_at x ≡ 3 * i + 1 → Of4 x
  of_2 : (i : ℕ) → x ≡ 4 * i + 2 → slot_at x ≡ 3 * i + 2 → Of4 x

of4 : (x : ℕ) → x % 4 < 3 → Of4 x
of4 x l = go (ℕ_discrete (x % 4) 0) (ℕ_discrete (x % 4) 1)
  where
    go : Dec (x % 4 ≡ 0) → Dec (x % 4 ≡ 1) → Of4 x
    go (yes h) k = of_0 (x / 4) (omega arith) (omega arith)
    go (no h) (yes k) = of_1 (x / 4) (omega arith) (omega arith)
    go (no h) (no k) = of_2 (x / 4) (omega arith) (omega arith)

-- what the two index functions compute
pub after_is : (x : ℕ) → x % 4 < 3 → x + 1 - 3 * (x % 4 / 2) ≡ after_place x
after_is x l = go (of4 x l)
  where
    go : Of4 x → x + 1 - 3 * (x % 4 / 2) ≡ after_place x
    go (of_0 i q k) = let a : x % 4 / 2 ≡ 0 = (let b : x % 4 ≡ 0 = omega arith in rw b refl) in rw (a, k, next_0 i) (omega arith)
    go (of_1 i q k) = let a : x % 4 / 2 ≡ 0 = (let b : x % 4 ≡ 1 = omega arith in rw b refl) in rw (a, k, next_1 i) (omega arith)
    go (of_2 i q k) = let a : x % 4 / 2 ≡ 1 = (let b : x % 4 ≡ 2 = omega arith in rw b refl) in rw (a, k, next_2 i) (omega arith)

pub own_is : (x : ℕ) → x % 4 < 3 → x + 3 * ((4 - x % 4) / 4) - 1 ≡ own_place_lem x
own_is x l = go (of4 x l)
  where
    go : Of4 x → x + 3 * ((4 - x % 4) / 4) - 1 ≡ own_place_lem x
    go (of_0 i q k) = let a : (4 - x % 4) / 4 ≡ 1 = (let b : x % 4 ≡ 0 = omega arith in rw b refl) in rw (a, k, next_0 i, next_1 i) (omega arith)
    go (of_1 i q k) = let a : (4 - x % 4) / 4 ≡ 0 = (let b : x % 4 ≡ 1 = omega arith in rw b refl) in rw (a, k, next_1 i, next_2 i) (omega arith)
    go (of_2 i q k) = let a : (4 - x % 4) / 4 ≡ 0 = (let b : x % 4 ≡ 2 = omega arith in rw b refl) in rw (a, k, next_2 i, next_0 i) (omega arith)
