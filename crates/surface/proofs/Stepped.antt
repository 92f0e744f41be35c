-- The theorems on a contraction, for an edge that meets the link condition.
use mathlib.Core.Path.{◌≡◌, refl, ap}
use mathlib.Core.Logic.{◌⊎◌, inl, inr}
use mathlib.Core.List.Memᴰ
use mathlib.Core.List.{List, [], ◌∷◌, filter}
use Prim.Native.Nat.{ℕ, zero, suc, ◌<◌, ◌+◌, ◌*◌}
use native.Mathlib.Decide.{dec_lt}
use native.Mathlib.Omega.{arith}
use lib.ListN.{length}
use Rattle.surface.specs.Lists.{◌∈◌, Distinct, none, more, Exactly}
use Rattle.surface.specs.Rows.{Row}
use Rattle.surface.specs.Table.{Arrow, ◌⇒◌, Follows, Used, edges}
use Rattle.surface.specs.Stage.{Stage}
use Rattle.surface.specs.Link.{Meets}
use Rattle.surface.specs.Contract.{contract}
use Rattle.surface.specs.Euler.{Rises, rises, Counts}
use Rattle.surface.proofs.Count.{distinct_filter}
use Rattle.surface.proofs.Renumber.{filter_in, filter_out}
use Rattle.surface.proofs.Once.{edge_in, in_edge}
use Rattle.surface.proofs.Linked.{opposite}
use Rattle.surface.proofs.Contracted.{contracted, two_leave}
use Rattle.surface.proofs.Counted.{euler, one_count, one_corner}
use Rattle.surface.proofs.Round.{round, round_sound, round_whole, upto, every_upto}

-- a contraction of an edge that meets the link condition leaves a stage
pub contraction : (n : ℕ) (T : List Row) (a b : ℕ) → Stage n T → Meets T a b → Stage n (contract a b T)
contraction n T a b s m = let o = opposite n T s m in contracted n T a b o.0 o.1 s o.2

-- corners - edges + rows is kept
pub euler_kept : (n : ℕ) (T : List Row) (a b : ℕ) → Stage n T → Meets T a b → {v e v' e' : ℕ} → Counts T v e → Counts (contract a b T) v' e' →
    v + length T + e' ≡ v' + length (contract a b T) + e
euler_kept n T a b s m c d = let o = opposite n T s m in (euler n T a b o.0 o.1 s o.2 c d).3

-- the counts of a stage
pub used? : (T : List Row) (v : ℕ) → Dec (Used T v)
used? T v = go (round v T) (λ p q f. round_whole T f) (λ p q m. round_sound T m)
  where
    go : (l : List Arrow) → ((p q : ℕ) → Follows T v p q → (p ⇒ q) ∈ l) → ((p q : ℕ) → (p ⇒ q) ∈ l → Follows T v p q) → Dec (Used T v)
    go [] w h = no (λ u. Memᴰ.not-nil (w u.0 u.1.0 u.1.1))
    go ((p ⇒ q) ∷ l) w h = yes (p, (q, h p q (Memᴰ.head refl)))

pub upto_below : (n v : ℕ) → v ∈ upto n → v < n
upto_below zero v m = absurd (Memᴰ.not-nil m)
upto_below (suc n) v m = go (Memᴰ.cases_cons m) (λ m. upto_below n v m)
  where
    go : (v ≡ n) ⊎ (v ∈ upto n) → (v ∈ upto n → v < n) → v < suc n
    go (inl e) rec = omega arith
    go (inr m) rec = let h = rec m in omega arith

pub upto_distinct : (n : ℕ) → Distinct (upto n)
upto_distinct zero = none
upto_distinct (suc n) = more (λ m. let h = upto_below n n m in omega arith) (upto_distinct n)

pub upto_length : (n : ℕ) → length (upto n) ≡ n
upto_length zero = refl
upto_length (suc n) = ap suc (upto_length n)

Up : Arrow → Type 0
Up (p ⇒ q) = p < q

up? : (a : Arrow) → Dec (Up a)
unfolding Up
up? (p ⇒ q) = dec_lt p q

pub counted : (n : ℕ) (T : List Row) → Stage n T → (v : ℕ) × (e : ℕ) × Counts T v e
unfolding Up
counted n T s = (
  length vs,
  length es,
  record {
    corners = record { list = vs; distinct = distinct_filter (used? T) (upto_distinct n); all = λ u. all_v _ u; only = λ m. (filter_out (used? T) (upto n) m).1; count = refl };
    sides = record { list = es; distinct = distinct_filter up? s.once; all = λ r. all_e _ r; only = λ m. only_e _ m; count = refl };
  },
)
  where
    vs : List ℕ
    vs = filter (used? T) (upto n)

    es : List Arrow
    es = filter up? (edges T)

    all_v : (v : ℕ) → Used T v → v ∈ vs
    all_v v u = filter_in (used? T) (upto n) (every_upto n v (s.below u.1.1)) u

    all_e : (a : Arrow) → Rises T a → a ∈ es
    all_e (p ⇒ q) (rises l e) = filter_in up? (edges T) (edge_in e) l

    only_e : (a : Arrow) → a ∈ es → Rises T a
    only_e (p ⇒ q) m = let k = filter_out up? (edges T) m in rises k.1 (in_edge T k.0)

-- k contractions, each of an edge that meets the link condition
pub data Steps : ℕ → List Row → List Row → Type 0 where
  done : {T T' : List Row} → T ≡ T' → Steps 0 T T'
  then : {k : ℕ} {T T' : List Row} (a b : ℕ) → Meets T a b → Steps k (contract a b T) T' → Steps (suc k) T T'

-- after k steps a stage stands, with k fewer corners used and 2 k fewer rows
pub steps_stage : {n k : ℕ} {T T' : List Row} → Stage n T → Steps k T T' → Stage n T'
steps_stage s (done e) = rw e at s
steps_stage s (then a b m c) = steps_stage (contraction _ _ a b s m) c

pub steps_rows : {n k : ℕ} {T T' : List Row} → Stage n T → Steps k T T' → length T ≡ length T' + 2 * k
steps_rows s (done e) = let h = ap length e in omega arith
steps_rows {n} {T = T} s (then a b m c) =
    let o = opposite n T s m in
    let i = steps_rows (contraction n T a b s m) c in
    let h : length T ≡ 2 + length (contract a b T) = two_leave n T a b o.0 o.1 s o.2 in
    omega arith

pub steps_corners : {n k : ℕ} {T T' : List Row} → Stage n T → Steps k T T' → {v v' : ℕ} → Exactly (Used T) v → Exactly (Used T') v' → v ≡ v' + k
steps_corners s (done e) c d = let h = one_count (rw e at c) d in omega arith
steps_corners {n} {T = T} s (then a b m q) c d =
    let o = opposite n T s m in
    let r = contraction n T a b s m in
    let w = counted n (contract a b T) r in
    let h = one_corner n T a b o.0 o.1 s o.2 c w.2.corners in
    let i = steps_corners r q w.2.corners d in
    omega arith
