-- Each directed edge occurs once: what follows is one corner.
use mathlib.Core.Path.{◌≡◌, refl, sym, ◌∙◌}
use mathlib.Core.Logic.{◌≢◌, ◌⊎◌, inl, inr}
use mathlib.Core.List.Memᴰ
use mathlib.Core.List.{List, [], ◌∷◌}
use Prim.Native.Nat.{ℕ}
use Rattle.surface.specs.Lists.{◌∈◌, Distinct, none, more}
use Rattle.surface.specs.Rows.{Row, row, Turned, turn_0, turn_1, turn_2}
use Rattle.surface.specs.Table.{Follows, Edge, edges, ◌⇒◌}

pub turn : {T : List Row} {v p q : ℕ} → Follows T v p q → Follows T p q v
turn {v} {p} {q} f = record { by = f.by; here = f.here; turned = go f.turned }
  where
    go : Turned f.by v p q → Turned f.by p q v
    go (turn_0 e) = turn_2 e
    go (turn_1 e) = turn_0 e
    go (turn_2 e) = turn_1 e

pub turn_it : {r : Row} {v p q : ℕ} → Turned r v p q → Turned r p q v
turn_it (turn_0 e) = turn_2 e
turn_it (turn_1 e) = turn_0 e
turn_it (turn_2 e) = turn_1 e

-- no directed edge of a row occurs in the rows behind it
pub data Once : List Row → Type 0 where
  once_none : Once []
  once_more : {r : Row} {T : List Row} → ((v p q : ℕ) → Turned r v p q → ¬ Edge T v p) → Once T → Once (r ∷ T)

-- the three numbers of a row differ
abbrev pub Apart : List Row → Type 0
Apart T = (v p q : ℕ) → Follows T v p q → v ≢ p

-- one row has a directed edge at one place
pub same_third : {r : Row} → ((v p q : ℕ) → Turned r v p q → v ≢ p) → {v p q s : ℕ} → Turned r v p q → Turned r v p s → q ≡ s
same_third d (turn_0 e) (turn_0 k) = cc
same_third d (turn_1 e) (turn_1 k) = cc
same_third d (turn_2 e) (turn_2 k) = cc
same_third d (turn_0 e) (turn_1 k) = absurd (d _ _ _ (turn_0 e) (cc))
same_third d (turn_0 e) (turn_2 k) = absurd (d _ _ _ (turn_0 e) (cc))
same_third d (turn_1 e) (turn_0 k) = absurd (d _ _ _ (turn_1 e) (cc))
same_third d (turn_1 e) (turn_2 k) = absurd (d _ _ _ (turn_1 e) (cc))
same_third d (turn_2 e) (turn_0 k) = absurd (d _ _ _ (turn_2 e) (cc))
same_third d (turn_2 e) (turn_1 k) = absurd (d _ _ _ (turn_2 e) (cc))

-- one row has a corner at one place
pub same_second : {r : Row} → ((v p q : ℕ) → Turned r v p q → v ≢ p) → {v p q p' q' : ℕ} → Turned r v p q → Turned r v p' q' → p ≡ p'
same_second d (turn_0 e) (turn_0 k) = cc
same_second d (turn_1 e) (turn_1 k) = cc
same_second d (turn_2 e) (turn_2 k) = cc
same_second d (turn_0 e) (turn_1 k) = absurd (d _ _ _ (turn_1 e) (cc))
same_second d (turn_0 e) (turn_2 k) = absurd (d _ _ _ (turn_0 e) (cc))
same_second d (turn_1 e) (turn_0 k) = absurd (d _ _ _ (turn_1 e) (cc))
same_second d (turn_1 e) (turn_2 k) = absurd (d _ _ _ (turn_2 e) (cc))
same_second d (turn_2 e) (turn_0 k) = absurd (d _ _ _ (turn_0 e) (cc))
same_second d (turn_2 e) (turn_1 k) = absurd (d _ _ _ (turn_2 e) (cc))

pub follows_head : {r : Row} {T : List Row} {v p q : ℕ} → Turned r v p q → Follows (r ∷ T) v p q
follows_head {r} t = record { by = r; here = Memᴰ.head refl; turned = t }

pub follows_tail : {r : Row} {T : List Row} {v p q : ℕ} → Follows T v p q → Follows (r ∷ T) v p q
follows_tail f = record { by = f.by; here = Memᴰ.tail f.here; turned = f.turned }

pub follows_cons : {r : Row} {T : List Row} {v p q : ℕ} → Follows (r ∷ T) v p q → Turned r v p q ⊎ Follows T v p q
follows_cons {r} {T} {v} {p} {q} f = go (Memᴰ.cases_cons f.here)
  where
    go : (f.by ≡ r) ⊎ (f.by ∈ T) → Turned r v p q ⊎ Follows T v p q
    go (inl e) = inl (rw e at f.turned)
    go (inr m) = inr (record { by = f.by; here = m; turned = f.turned })

-- q is the only corner that follows p round v
pub follows_one : {T : List Row} → Once T → Apart T → {v p q s : ℕ} → Follows T v p q → Follows T v p s → q ≡ s
follows_one once_none d f g = absurd (Memᴰ.not-nil f.here)
follows_one (once_more {r = r} {T = T} new o) d {v} {p} {q} {s} f g =
    go (λ f g. follows_one o (λ v p q h. d v p q (follows_tail h)) f g) (follows_cons f) (follows_cons g)
  where
    go : (Follows T v p q → Follows T v p s → q ≡ s) → Turned r v p q ⊎ Follows T v p q → Turned r v p s ⊎ Follows T v p s → q ≡ s
    go rec (inl t) (inl u) = same_third (λ v p q h. d v p q (follows_head h)) t u
    go rec (inl t) (inr u) = absurd (new _ _ _ t (s, u))
    go rec (inr t) (inl u) = absurd (new _ _ _ u (q, t))
    go rec (inr t) (inr u) = rec t u

-- one row has the directed edge
pub row_one : {T : List Row} → Once T → {r r' : Row} {v p q q' : ℕ} → r ∈ T → Turned r v p q → r' ∈ T → Turned r' v p q' → r ≡ r'
row_one once_none m t m' t' = absurd (Memᴰ.not-nil m)
row_one (once_more {r = z} {T = T} new o) {r} {r'} {v} {p} {q} {q'} m t m' t' =
    go (λ k k'. row_one o k t k' t') (Memᴰ.cases_cons m) (Memᴰ.cases_cons m')
  where
    go : (r ∈ T → r' ∈ T → r ≡ r') → (r ≡ z) ⊎ (r ∈ T) → (r' ≡ z) ⊎ (r' ∈ T) → r ≡ r'
    go rec (inl e) (inl k) = e ∙ sym k
    go rec (inl e) (inr k) = absurd (new v p q (rw e at t) (q', record { by = r'; here = k; turned = t' }))
    go rec (inr e) (inl k) = absurd (new v p q' (rw k at t') (q, record { by = r; here = e; turned = t }))
    go rec (inr e) (inr k) = rec e k

pub distinct_rows : {T : List Row} → Once T → Distinct T
distinct_rows once_none = none
distinct_rows (once_more {r = r} {T = T} new o) = more (go r new) (distinct_rows o)
  where
    go : (r : Row) → ((v p q : ℕ) → Turned r v p q → ¬ Edge T v p) → ¬ (r ∈ T)
    go (row i j k) new m = new i j k (turn_0 refl) (k, record { by = row i j k; here = m; turned = turn_0 refl })

-- the list of directed edges says the same
pub edge_in : {T : List Row} {v p : ℕ} → Edge T v p → (v ⇒ p) ∈ edges T
unfolding edges
edge_in {T = []} e = absurd (Memᴰ.not-nil e.1.here)
edge_in {T = row i j k ∷ T} {v} {p} e = go (λ e. edge_in e) (follows_cons e.1)
  where
    go : (Edge T v p → (v ⇒ p) ∈ edges T) → Turned (row i j k) v p e.0 ⊎ Follows T v p e.0 → (v ⇒ p) ∈ edges (row i j k ∷ T)
    go rec (inl (turn_0 t)) = Memᴰ.head {x = (i ⇒ j)} (cc)
    go rec (inl (turn_1 t)) = Memᴰ.tail (Memᴰ.tail (Memᴰ.head {x = (k ⇒ i)} (cc)))
    go rec (inl (turn_2 t)) = Memᴰ.tail (Memᴰ.head {x = (j ⇒ k)} (cc))
    go rec (inr f) = Memᴰ.tail (Memᴰ.tail (Memᴰ.tail (rec (e.0, f))))

pub in_edge : (T : List Row) {v p : ℕ} → (v ⇒ p) ∈ edges T → Edge T v p
unfolding edges
in_edge [] m = absurd (Memᴰ.not-nil m)
in_edge (row i j k ∷ T) {v} {p} m = go (λ m. in_edge T m) (Memᴰ.cases_cons m)
  where
    go₃ : ((v ⇒ p) ∈ edges T → Edge T v p) → ((v ⇒ p) ≡ (k ⇒ i)) ⊎ ((v ⇒ p) ∈ edges T) → Edge (row i j k ∷ T) v p
    go₃ rec (inl e) = (j, follows_head (turn_1 (cc)))
    go₃ rec (inr m) = ((rec m).0, follows_tail (rec m).1)

    go₂ : ((v ⇒ p) ∈ edges T → Edge T v p) → ((v ⇒ p) ≡ (j ⇒ k)) ⊎ ((v ⇒ p) ∈ (k ⇒ i) ∷ edges T) → Edge (row i j k ∷ T) v p
    go₂ rec (inl e) = (i, follows_head (turn_2 (cc)))
    go₂ rec (inr m) = go₃ rec (Memᴰ.cases_cons m)

    go : ((v ⇒ p) ∈ edges T → Edge T v p) → ((v ⇒ p) ≡ (i ⇒ j)) ⊎ ((v ⇒ p) ∈ (j ⇒ k) ∷ (k ⇒ i) ∷ edges T) → Edge (row i j k ∷ T) v p
    go rec (inl e) = (k, follows_head (turn_0 (cc)))
    go rec (inr m) = go₂ rec (Memᴰ.cases_cons m)

distinct_cons : {A : Type 0} {a : A} {l : List A} → Distinct (a ∷ l) → (¬ (a ∈ l)) × Distinct l
distinct_cons (more n d) = (n, d)

pub once_of_distinct : (T : List Row) → Distinct (edges T) → Once T
unfolding edges
once_of_distinct [] d = once_none
once_of_distinct (row i j k ∷ T) d = once_more (λ v p q t e. go v p q t (edge_in e)) (once_of_distinct T c.1)
  where
    a : (¬ ((i ⇒ j) ∈ (j ⇒ k) ∷ (k ⇒ i) ∷ edges T)) × Distinct ((j ⇒ k) ∷ (k ⇒ i) ∷ edges T)
    a = distinct_cons d

    b : (¬ ((j ⇒ k) ∈ (k ⇒ i) ∷ edges T)) × Distinct ((k ⇒ i) ∷ edges T)
    b = distinct_cons a.1

    c : (¬ ((k ⇒ i) ∈ edges T)) × Distinct (edges T)
    c = distinct_cons b.1

    go : (v p q : ℕ) → Turned (row i j k) v p q → ¬ ((v ⇒ p) ∈ edges T)
    go v p q (turn_0 t) m = a.0 (Memᴰ.tail (Memᴰ.tail (Memᴰ.cast (cc) m)))
    go v p q (turn_1 t) m = c.0 (Memᴰ.cast (cc) m)
    go v p q (turn_2 t) m = b.0 (Memᴰ.tail (Memᴰ.cast (cc) m))

pub distinct_of_once : (T : List Row) → Once T → Apart T → Distinct (edges T)
unfolding edges
distinct_of_once [] o d = none
distinct_of_once (row i j k ∷ T) (once_more new o) d =
    more na (more nb (more nc (distinct_of_once T o (λ v p q h. d v p q (follows_tail h)))))
  where
    ij : i ≢ j
    ij = d i j k (follows_head (turn_0 refl))

    jk : j ≢ k
    jk = d j k i (follows_head (turn_2 refl))

    ki : k ≢ i
    ki = d k i j (follows_head (turn_1 refl))

    nc : ¬ ((k ⇒ i) ∈ edges T)
    nc m = new k i j (turn_1 refl) (in_edge T m)

    nb' : ((j ⇒ k) ≡ (k ⇒ i)) ⊎ ((j ⇒ k) ∈ edges T) → ⊥
    nb' (inl e) = jk (cc)
    nb' (inr m) = new j k i (turn_2 refl) (in_edge T m)

    nb : ¬ ((j ⇒ k) ∈ (k ⇒ i) ∷ edges T)
    nb m = nb' (Memᴰ.cases_cons m)

    na'' : ((i ⇒ j) ≡ (k ⇒ i)) ⊎ ((i ⇒ j) ∈ edges T) → ⊥
    na'' (inl e) = ki (sym (cc))
    na'' (inr m) = new i j k (turn_0 refl) (in_edge T m)

    na' : ((i ⇒ j) ≡ (j ⇒ k)) ⊎ ((i ⇒ j) ∈ (k ⇒ i) ∷ edges T) → ⊥
    na' (inl e) = ij (cc)
    na' (inr m) = na'' (Memᴰ.cases_cons m)

    na : ¬ ((i ⇒ j) ∈ (j ⇒ k) ∷ (k ⇒ i) ∷ edges T)
    na m = na' (Memᴰ.cases_cons m)
