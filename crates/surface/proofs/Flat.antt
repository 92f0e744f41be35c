-- A flat table and its rows, by place.
use mathlib.Core.Path.{◌≡◌, refl, sym, ◌∙◌, ap}
use mathlib.Core.Logic.{◌≢◌}
use mathlib.Core.List.Memᴰ
use mathlib.Core.List.{List, [], ◌∷◌}
use Prim.Native.Nat.{ℕ, zero, suc, ◌≤◌, ◌<◌, ◌+◌, ◌-◌, ◌*◌}
use native.Mathlib.Omega.{arith}
use native.Mathlib.Numerals.{add-one, add-two, add-three}
use lib.ListN.{length, drop, get_or, length-drop}
use lib.Seq.{drop-cons}
use Rattle.surface.specs.Lists.{◌∈◌, Distinct, none, more}
use Rattle.surface.specs.Rows.{Row, row, rows, flat}

pub rows_flat : (T : List Row) → rows (flat T) ≡ T
unfolding rows flat
rows_flat [] = refl
rows_flat (row i j k ∷ T) = ap (λ l. row i j k ∷ l) (rows_flat T)

pub flat_length : (T : List Row) → length (flat T) ≡ 3 * length T
unfolding flat
flat_length [] = refl
flat_length (row i j k ∷ T) = let h = flat_length T in omega arith

-- a flat table whose length is a multiple of three is its rows' numbers
pub flat_rows : (k : ℕ) (t : List ℕ) → length t ≡ 3 * k → flat (rows t) ≡ t
unfolding rows flat
flat_rows k [] h = refl
flat_rows k (a ∷ []) h = absurd (omega arith)
flat_rows k (a ∷ b ∷ []) h = absurd (omega arith)
flat_rows zero (a ∷ b ∷ c ∷ t) h = absurd (omega arith)
flat_rows (suc k) (a ∷ b ∷ c ∷ t) h = ap (λ l. a ∷ b ∷ c ∷ l) (flat_rows k t (omega arith))

pub rows_length : (k : ℕ) (t : List ℕ) → length t ≡ 3 * k → length (rows t) ≡ k
unfolding rows
rows_length zero [] h = refl
rows_length (suc k) [] h = absurd (omega arith)
rows_length k (a ∷ []) h = absurd (omega arith)
rows_length k (a ∷ b ∷ []) h = absurd (omega arith)
rows_length zero (a ∷ b ∷ c ∷ t) h = absurd (omega arith)
rows_length (suc k) (a ∷ b ∷ c ∷ t) h = ap suc (rows_length k t (omega arith))

-- the row at place i holds the numbers from 3 i on
pub rows_at : (i : ℕ) (t : List ℕ) (d : Row) → i < length (rows t) → get_or (rows t) i d ≡ row (get_or t (3 * i) 0) (get_or t (3 * i + 1) 0) (get_or t (3 * i + 2) 0)
unfolding rows
rows_at i [] d h = absurd (omega arith)
rows_at i (a ∷ []) d h = absurd (omega arith)
rows_at i (a ∷ b ∷ []) d h = absurd (omega arith)
rows_at zero (a ∷ b ∷ c ∷ t) d h = refl
rows_at (suc i) (a ∷ b ∷ c ∷ t) d h =
    let e₀ : 3 * suc i ≡ suc (suc (suc (3 * i))) = omega arith in
    let e₁ : suc (suc (suc (3 * i))) + 1 ≡ suc (suc (suc (3 * i + 1))) = omega arith in
    let e₂ : suc (suc (suc (3 * i))) + 2 ≡ suc (suc (suc (3 * i + 2))) = omega arith in
    rw (e₀, e₁, e₂) (rows_at i t d (omega arith))

module _ {A : Type 0} where
  -- an element stands at a place
  pub at_place : (l : List A) (i : ℕ) (d : A) → i < length l → get_or l i d ∈ l
  at_place [] i d h = absurd (omega arith)
  at_place (z ∷ l) zero d h = Memᴰ.head refl
  at_place (z ∷ l) (suc i) d h = Memᴰ.tail (at_place l i d (omega arith))

  pub place_of : {a : A} {l : List A} (d : A) → a ∈ l → (i : ℕ) × (i < length l) × (get_or l i d ≡ a)
  place_of d (Memᴰ.head e) = (zero, omega arith, sym e)
  place_of d (Memᴰ.tail m) = let r = place_of d m in let h = r.1 in (suc r.0, omega arith, r.2)

  -- none occurs twice: two places differ in what they hold
  pub places_differ : {l : List A} (d : A) → Distinct l → (i j : ℕ) → i < j → j < length l → get_or l i d ≢ get_or l j d
  places_differ d none i j h k e = omega arith
  places_differ d (more n s) zero zero h k e = omega arith
  places_differ d (more {a = a} {l = l} n s) zero (suc j) h k e = n (Memᴰ.cast e (at_place l j d (omega arith)))
  places_differ d (more n s) (suc i) zero h k e = omega arith
  places_differ d (more n s) (suc i) (suc j) h k e = places_differ d s i j (omega arith) (omega arith) e

  pub differ_places : (d : A) (l : List A) → ((i j : ℕ) → i < j → j < length l → get_or l i d ≢ get_or l j d) → Distinct l
  differ_places d [] h = none
  differ_places d (a ∷ l) h =
      more {a = a} {l = l} (λ m. let r = place_of d m in let k = r.1 in h zero (suc r.0) (omega arith) (omega arith) (sym r.2))
      (differ_places d l (λ i j lt k. h (suc i) (suc j) (omega arith) (omega arith)))

-- a table has three numbers for each row
pub rows_fit : (t : List ℕ) → 3 * length (rows t) ≤ length t
unfolding rows
rows_fit [] = omega arith
rows_fit (a ∷ []) = omega arith
rows_fit (a ∷ b ∷ []) = omega arith
rows_fit (a ∷ b ∷ c ∷ t) = let h = rows_fit t in omega arith

-- what is left of a flat table from i on begins with the three numbers there
pub three : (l : List ℕ) (i : ℕ) → i + 3 ≤ length l → drop i l ≡ get_or l i 0 ∷ get_or l (i + 1) 0 ∷ get_or l (i + 2) 0 ∷ drop (i + 3) l
three l i h =
    let h0 : i < length l = omega arith in
    let h1 : suc i < length l = omega arith in
    let h2 : suc (suc i) < length l = omega arith in
    drop-cons l i 0 h0
    ∙ ap (λ (r : List ℕ). get_or l i 0 ∷ r) (drop-cons l (suc i) 0 h1)
    ∙ ap (λ (r : List ℕ). get_or l i 0 ∷ get_or l (suc i) 0 ∷ r) (drop-cons l (suc (suc i)) 0 h2)
    ∙ simp (add-one, add-two, add-three)

-- the row whose numbers stand from i on
abbrev pub row_from : List ℕ → ℕ → Row
row_from t i = row (get_or t i 0) (get_or t (i + 1) 0) (get_or t (i + 2) 0)

pub one_row : (t : List ℕ) (i : ℕ) → i + 3 ≤ length t → rows (drop i t) ≡ row_from t i ∷ rows (drop (i + 3) t)
unfolding rows
one_row t i h = ap rows (three t i h)

pub no_row : (t : List ℕ) (i : ℕ) → length t - i < 3 → rows (drop i t) ≡ []
no_row t i h = go (drop i t) (omega (arith, length-drop i t))
  where
    go : (l : List ℕ) → length l < 3 → rows l ≡ []
    go [] g = unfold rows in refl
    go (a ∷ []) g = unfold rows in refl
    go (a ∷ b ∷ []) g = unfold rows in refl
    go (a ∷ b ∷ c ∷ l) g = absurd (omega arith)
