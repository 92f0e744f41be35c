-- Rows at their places, and rows set in others' places; in a flat table, three numbers read and three written.
use mathlib.Core.Path.{◌≡◌, refl, sym, ◌∙◌, ap}
use mathlib.Core.Logic.{◌≢◌, ◌⊎◌, inl, inr}
use mathlib.Core.List.Memᴰ
use mathlib.Core.List.{List, [], ◌∷◌}
use Prim.Native.Nat.{ℕ, zero, suc, ◌<◌, ◌+◌, ◌*◌}
use native.Mathlib.Omega.{arith}
use lib.ListN.{length, get_or, set, length-set}
use lib.Seq.{set-set, set-get_or, set_comm}
use Rattle.surface.specs.Lists.{◌∈◌, Distinct, more}
use Rattle.surface.specs.Rows.{Row, row, rows}
use Rattle.surface.proofs.Flat.{rows_at, row_from}
use Rattle.flips.specs.Flip.{Stands, stands_here, stands_later}

pub stands_in : {T : List Row} {i : ℕ} {r : Row} → Stands T i r → r ∈ T
stands_in (stands_here e) = Memᴰ.head e
stands_in (stands_later s) = Memᴰ.tail (stands_in s)

pub in_stands : {r : Row} {T : List Row} → r ∈ T → (i : ℕ) × Stands T i r
in_stands (Memᴰ.head e) = (zero, stands_here e)
in_stands (Memᴰ.tail m) = let w = in_stands m in (suc w.0, stands_later w.1)

-- one row stands at a place
pub stands_one : {T : List Row} {i : ℕ} {r z : Row} → Stands T i r → Stands T i z → r ≡ z
stands_one (stands_here e) (stands_here f) = e ∙ sym f
stands_one (stands_later s) (stands_later t) = stands_one s t

-- and where no row occurs twice, it stands at one place
pub stands_place : {T : List Row} {i j : ℕ} {r : Row} → Distinct T → Stands T i r → Stands T j r → i ≡ j
stands_place d (stands_here e) (stands_here f) = refl
stands_place (more n d) (stands_here e) (stands_later t) = absurd (n (Memᴰ.cast (sym e) (stands_in t)))
stands_place (more n d) (stands_later s) (stands_here f) = absurd (n (Memᴰ.cast (sym f) (stands_in s)))
stands_place (more n d) (stands_later s) (stands_later t) = ap suc (stands_place d s t)

pub stands_inside : {T : List Row} {i : ℕ} {r : Row} → Stands T i r → i < length T
stands_inside (stands_here e) = omega arith
stands_inside (stands_later s) = let h = stands_inside s in omega arith

stands_get_or : {T : List Row} {i : ℕ} {r : Row} (d : Row) → Stands T i r → get_or T i d ≡ r
stands_get_or d (stands_here e) = sym e
stands_get_or d (stands_later s) = stands_get_or d s

get_or_stands : (T : List Row) (i : ℕ) (d : Row) → i < length T → Stands T i (get_or T i d)
get_or_stands [] i d h = absurd (omega arith)
get_or_stands (t ∷ T) zero d h = stands_here refl
get_or_stands (t ∷ T) (suc i) d h = stands_later (get_or_stands T i d (omega arith))

-- the row set at a place stands there, and the others where they stood
pub set_new : {T : List Row} {i : ℕ} {o : Row} (r : Row) → Stands T i o → Stands (set T i r) i r
set_new r (stands_here e) = stands_here refl
set_new r (stands_later s) = stands_later (set_new r s)

pub set_other : {T : List Row} {j : ℕ} {o : Row} (i : ℕ) (r : Row) → i ≢ j → Stands T j o → Stands (set T i r) j o
set_other zero r n (stands_here e) = absurd (n refl)
set_other (suc i) r n (stands_here e) = stands_here e
set_other zero r n (stands_later s) = stands_later s
set_other (suc i) r n (stands_later s) = stands_later (set_other i r (λ e. n (ap suc e)) s)

-- the old row set again gives the old table
pub set_back : {T : List Row} {i : ℕ} {o : Row} (r : Row) → Stands T i o → set (set T i r) i o ≡ T
set_back {T} {i} {o} r s = set-set T i r o ∙ ap (set T i) (sym (stands_get_or o s)) ∙ set-get_or T i o

pub set_back_two : {T : List Row} {i j : ℕ} {o₁ o₂ : Row} (z₁ z₂ : Row) → i ≢ j → Stands T i o₁ → Stands T j o₂ → set (set (set (set T j z₂) i z₁) j o₂) i o₁ ≡ T
set_back_two {T} {i} {j} {o₁} {o₂} z₁ z₂ n s₁ s₂ =
    ap (λ l. set l i o₁) (set_comm (set T j z₂) i j z₁ o₂ n ∙ ap (λ l. set l i z₁) (set_back z₂ s₂)) ∙ set_back z₁ s₁

-- what a table holds once a row is set
set_out : {T : List Row} {i : ℕ} {o : Row} (z : Row) → Distinct T → Stands T i o → {r : Row} → r ∈ set T i z → (r ≡ z) ⊎ ((r ∈ T) × (r ≢ o))
set_out z (more n d) (stands_here {r = o} {z = t} {T = T} e) {r} m = go (Memᴰ.cases_cons m)
  where
    go : (r ≡ z) ⊎ (r ∈ T) → (r ≡ z) ⊎ ((r ∈ t ∷ T) × (r ≢ o))
    go (inl i) = inl i
    go (inr m) = inr (Memᴰ.tail m, λ i. n (Memᴰ.cast (sym (i ∙ e)) m))
set_out z (more n d) (stands_later {r = o} {z = t} {T = T} {i = i} s) {r} m = go (Memᴰ.cases_cons m) (λ m. set_out z d s m)
  where
    up : (r ≡ z) ⊎ ((r ∈ T) × (r ≢ o)) → (r ≡ z) ⊎ ((r ∈ t ∷ T) × (r ≢ o))
    up (inl i) = inl i
    up (inr w) = inr (Memᴰ.tail w.0, w.1)

    go : (r ≡ t) ⊎ (r ∈ set T i z) → (r ∈ set T i z → (r ≡ z) ⊎ ((r ∈ T) × (r ≢ o))) → (r ≡ z) ⊎ ((r ∈ t ∷ T) × (r ≢ o))
    go (inl e) rec = inr (Memᴰ.head e, λ k. n (Memᴰ.cast (sym e ∙ k) (stands_in s)))
    go (inr m) rec = up (rec m)
set_out {i = i} {o = o} z Rattle.surface.specs.Lists.none x5 {r = r} m = elim x5 [ ]

set_keep : {T : List Row} {i : ℕ} {o : Row} (z : Row) → Stands T i o → {r : Row} → r ∈ T → r ≢ o → r ∈ set T i z
set_keep z (stands_here {r = o} {z = t} {T = T} e) {r} m n = go (Memᴰ.cases_cons m)
  where
    go : (r ≡ t) ⊎ (r ∈ T) → r ∈ z ∷ T
    go (inl k) = absurd (n (k ∙ sym e))
    go (inr m) = Memᴰ.tail m
set_keep z (stands_later {z = t} {T = T} {i = i} s) {r} m n = go (Memᴰ.cases_cons m) (λ m. set_keep z s m n)
  where
    go : (r ≡ t) ⊎ (r ∈ T) → (r ∈ T → r ∈ set T i z) → r ∈ t ∷ set T i z
    go (inl e) rec = Memᴰ.head e
    go (inr m) rec = Memᴰ.tail (rec m)

set_distinct : {T : List Row} {i : ℕ} {o : Row} (z : Row) → Distinct T → Stands T i o → ¬ (z ∈ T) → Distinct (set T i z)
set_distinct z (more n d) (stands_here e) k = more (λ m. k (Memᴰ.tail m)) d
set_distinct z (more n d) (stands_later {r = o} {z = t} {T = T} {i = i} s) k = more (λ m. go (set_out z d s m)) (set_distinct z d s (λ m. k (Memᴰ.tail m)))
  where
    go : (t ≡ z) ⊎ ((t ∈ T) × (t ≢ o)) → ⊥
    go (inl e) = k (Memᴰ.head (sym e))
    go (inr w) = n w.0
set_distinct {i = i} {o = o} z Rattle.surface.specs.Lists.none x5 k = elim x5 [ ]

-- a row of a table in which z₁ and z₂ came for o₁ and o₂: new, or an old one that stayed
abbrev pub NewOrOld : List Row → Row → Row → Row → Row → Row → Type 0
NewOrOld T o₁ o₂ z₁ z₂ r = (r ≡ z₁) ⊎ ((r ≡ z₂) ⊎ ((r ∈ T) × (r ≢ o₁) × (r ≢ o₂)))

-- two rows go, two come, the others stay
pub record Swapped (T : List Row) (o₁ o₂ z₁ z₂ : Row) (W : List Row) : Type 0 where
  pub out : {r : Row} → r ∈ W → NewOrOld T o₁ o₂ z₁ z₂ r
  pub keep : {r : Row} → r ∈ T → r ≢ o₁ → r ≢ o₂ → r ∈ W
  pub in_1 : z₁ ∈ W
  pub in_2 : z₂ ∈ W
  pub distinct : Distinct W
  pub size : length W ≡ length T

pub set_two : {T : List Row} {i j : ℕ} {o₁ o₂ : Row} (z₁ z₂ : Row) → Distinct T → Stands T i o₁ → Stands T j o₂ → i ≢ j → ¬ (z₁ ∈ T) → ¬ (z₂ ∈ T) → z₁ ≢ z₂ →
    Swapped T o₁ o₂ z₁ z₂ (set (set T j z₂) i z₁)
set_two {T} {i} {j} {o₁} {o₂} z₁ z₂ d s₁ s₂ n k₁ k₂ m = record {
  out = λ h. go (set_out z₁ d₂ s₃ h);
  keep = λ h e f. set_keep z₁ s₃ (set_keep z₂ s₂ h f) e;
  in_1 = stands_in (set_new z₁ s₃);
  in_2 = set_keep z₁ s₃ (stands_in (set_new z₂ s₂)) (λ e. k₂ (Memᴰ.cast e (stands_in s₁)));
  distinct = set_distinct z₁ d₂ s₃ (λ h. new (set_out z₂ d s₂ h));
  size = length-set (set T j z₂) i z₁ ∙ length-set T j z₂;
}
  where
    d₂ : Distinct (set T j z₂)
    d₂ = set_distinct z₂ d s₂ k₂

    s₃ : Stands (set T j z₂) i o₁
    s₃ = set_other j z₂ (λ e. n (sym e)) s₁

    new : (z₁ ≡ z₂) ⊎ ((z₁ ∈ T) × (z₁ ≢ o₂)) → ⊥
    new (inl e) = m e
    new (inr w) = k₁ w.0

    both : {r : Row} → r ≢ o₁ → (r ≡ z₂) ⊎ ((r ∈ T) × (r ≢ o₂)) → NewOrOld T o₁ o₂ z₁ z₂ r
    both e (inl h) = inr (inl h)
    both e (inr h) = inr (inr (h.0, e, h.1))

    go : {r : Row} → (r ≡ z₁) ⊎ ((r ∈ set T j z₂) × (r ≢ o₁)) → NewOrOld T o₁ o₂ z₁ z₂ r
    go (inl e) = inl e
    go (inr h) = both h.1 (set_out z₂ d s₂ h.0)

-- the row at place i of a flat table is the three numbers from 3 i on
pub rows_stands : (t : List ℕ) (i : ℕ) → i < length (rows t) → Stands (rows t) i (row_from t (3 * i))
rows_stands t i h = rw (sym (rows_at i t (row 0 0 0) h)) (get_or_stands (rows t) i (row 0 0 0) h)

pub stands_row : (t : List ℕ) {i : ℕ} {r : Row} → Stands (rows t) i r → (i < length (rows t)) × (r ≡ row_from t (3 * i))
stands_row t {i} s = let h = stands_inside s in (h, stands_one s (rows_stands t i h))

-- three numbers written there are a row set at its place
pub rows_set : (i : ℕ) (t : List ℕ) (x y z : ℕ) → i < length (rows t) → rows (set (set (set t (3 * i) x) (3 * i + 1) y) (3 * i + 2) z) ≡ set (rows t) i (row x y z)
unfolding rows
rows_set i [] x y z h = absurd (omega arith)
rows_set i (a ∷ []) x y z h = absurd (omega arith)
rows_set i (a ∷ b ∷ []) x y z h = absurd (omega arith)
rows_set zero (a ∷ b ∷ c ∷ t) x y z h = refl
rows_set (suc i) (a ∷ b ∷ c ∷ t) x y z h =
    let e₀ : 3 * suc i ≡ suc (suc (suc (3 * i))) = omega arith in
    let e₁ : suc (suc (suc (3 * i))) + 1 ≡ suc (suc (suc (3 * i + 1))) = omega arith in
    let e₂ : suc (suc (suc (3 * i))) + 2 ≡ suc (suc (suc (3 * i + 2))) = omega arith in
    rw (e₀, e₁, e₂) (ap (λ l. row a b c ∷ l) (rows_set i t x y z (omega arith)))
