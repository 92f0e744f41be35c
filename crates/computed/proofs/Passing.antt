-- A table that passes a computed test is a stage.
use mathlib.Core.Path.{◌≡◌, refl, sym}
use mathlib.Core.Logic.{◌≢◌, ◌⊎◌, inl, inr}
use mathlib.Core.Bool.{Bool, true, false, ◌&&◌, not, cond}
use mathlib.Core.List.Memᴰ
use mathlib.Core.List.{List, [], ◌∷◌}
use Prim.Native.Nat.{ℕ, zero, suc, ◌<◌}
use lib.Dec.{T as So, eqb, ltb, leb, eqb→eq, eqb_refl, ltb→lt, leb→le, T_not}
use lib.ListN.{length}
use Rattle.surface.specs.Limits.{least_rows, most_rows, least_corners, most_corners}
use Rattle.surface.specs.Lists.{◌∈◌, Distinct, Reach, stay}
use Rattle.surface.specs.Rows.{Row, row, Turned, turn_0, turn_1, turn_2}
use Rattle.surface.specs.Table.{Arrow, ◌⇒◌, Follows, Edge, Used, edges}
use Rattle.surface.specs.Stage.{Stage}
use Rattle.surface.proofs.Reaching.{join, one_step, carry, go_back}
use Rattle.surface.proofs.Once.{Apart, edge_in, in_edge, once_of_distinct}
use Rattle.surface.proofs.Cycle.{ring_from}
use Rattle.surface.proofs.Testing.{and_l, and_r, every, every_at, among, among_sound, differ, differ_sound, arrow_eq, arrow_sound, arrow_whole}
use Rattle.surface.proofs.Round.{round, source_of, round_sound, round_whole, upto, every_upto}

-- one pass: what an arrow leads to from what is seen is seen
abbrev pass : List Arrow → List ℕ → List ℕ
pass [] seen = seen
pass ((p ⇒ q) ∷ l) seen = pass l (cond (among eqb p seen && not (among eqb q seen)) (q ∷ seen) seen)

abbrev spread : ℕ → List Arrow → List ℕ → List ℕ
spread zero l seen = seen
spread (suc k) l seen = spread k l (pass l seen)

abbrev By : List Arrow → ℕ → ℕ → Type 0
By l p q = (p ⇒ q) ∈ l

module _ (all : List Arrow) (from : ℕ) where
  pass_sound : (l : List Arrow) → ((a : Arrow) → a ∈ l → a ∈ all) → (seen : List ℕ) → ((w : ℕ) → w ∈ seen → Reach (By all) from w) → (w : ℕ) → w ∈ pass l seen → Reach (By all) from w
  pass_sound [] sub seen h w m = h w m
  pass_sound ((p ⇒ q) ∷ l) sub seen h w m =
      pass_sound l (λ a k. sub a (Memᴰ.tail k)) _ (go (among eqb p seen && not (among eqb q seen)) (λ k. among_sound eqb eqb→eq eqb_refl seen (and_l (among eqb p seen) _ k))) w m
    where
      next : p ∈ seen → (w : ℕ) → (w ≡ q) ⊎ (w ∈ seen) → Reach (By all) from w
      next mp w (inl e) = rw e (join (h p mp) (one_step (sub (p ⇒ q) (Memᴰ.head refl))))
      next mp w (inr m) = h w m

      go : (b : Bool) → (So b → p ∈ seen) → (w : ℕ) → w ∈ cond b (q ∷ seen) seen → Reach (By all) from w
      go true k w m = next (k tt) w (Memᴰ.cases_cons m)
      go false k w m = h w m

  spread_sound : (k : ℕ) (seen : List ℕ) → ((w : ℕ) → w ∈ seen → Reach (By all) from w) → (w : ℕ) → w ∈ spread k all seen → Reach (By all) from w
  spread_sound zero seen h w m = h w m
  spread_sound (suc k) seen h w m = spread_sound k (pass all seen) (pass_sound all (λ a i. i) seen h) w m

-- all are seen from the first
abbrev one_ring : List Arrow → Bool
one_ring [] = true
one_ring ((p ⇒ q) ∷ l) =
    let seen = spread (length l) ((p ⇒ q) ∷ l) (p ∷ []) in
    every (λ a. among eqb (source_of a) seen) ((p ⇒ q) ∷ l)

abbrev pub row_fits : ℕ → Row → Bool
row_fits n (row i j k) =
    ltb i n && (ltb j n && (ltb k n && (not (eqb i j) && (not (eqb j k) && not (eqb k i)))))

abbrev turn_back : Arrow → Arrow
turn_back (p ⇒ q) = q ⇒ p

abbrev pub passes : ℕ → List Row → Bool
passes n T =
    leb least_rows (length T) && (leb (length T) most_rows && (leb least_corners n && (leb n most_corners && (every (row_fits n) T && (differ arrow_eq (edges T) && (every (λ a. among arrow_eq (turn_back a) (edges T)) (edges T)
    && (every (λ v. one_ring (round v T)) (upto n) && one_ring (edges T))))))))

-- what the parts of the test say
not_eq : (i j : ℕ) → So (not (eqb i j)) → i ≢ j
not_eq i j h e = T_not (eqb i j) h (rw e (eqb_refl j))

pub row_below : (n : ℕ) (r : Row) → So (row_fits n r) → {v p q : ℕ} → Turned r v p q → (v < n) × (v ≢ p)
row_below n (row i j k) h {v} {p} {q} t =
    let h₁ = and_r (ltb i n) _ h in
    let h₂ = and_r (ltb j n) _ h₁ in
    let h₃ = and_r (ltb k n) _ h₂ in
    let h₄ = and_r (not (eqb i j)) _ h₃ in
    go (ltb→lt i n (and_l (ltb i n) _ h)) (ltb→lt j n (and_l (ltb j n) _ h₁)) (ltb→lt k n (and_l (ltb k n) _ h₂))
    (not_eq i j (and_l (not (eqb i j)) _ h₃)) (not_eq j k (and_l (not (eqb j k)) _ h₄)) (not_eq k i (and_r (not (eqb j k)) _ h₄)) t
  where
    go : i < n → j < n → k < n → i ≢ j → j ≢ k → k ≢ i → Turned (row i j k) v p q → (v < n) × (v ≢ p)
    go hi hj hk ij jk ki (turn_0 e) = let ev : i ≡ v = cc in let ep : j ≡ p = cc in (rw (sym ev) hi, λ c. ij (cc))
    go hi hj hk ij jk ki (turn_1 e) = let ev : k ≡ v = cc in let ep : i ≡ p = cc in (rw (sym ev) hk, λ c. ki (cc))
    go hi hj hk ij jk ki (turn_2 e) = let ev : j ≡ v = cc in let ep : k ≡ p = cc in (rw (sym ev) hj, λ c. jk (cc))

-- a place from which every arrow's source is reached
record Hub (l : List Arrow) : Type 0 where
  z : ℕ
  w : ℕ
  first : (z ⇒ w) ∈ l
  reaches : {s t : ℕ} → (s ⇒ t) ∈ l → Reach (By l) z s

one_ring_sound : (l : List Arrow) → So (one_ring l) → {p : ℕ} {q : ℕ} → (p ⇒ q) ∈ l → Hub l
one_ring_sound [] h m = absurd (Memᴰ.not-nil m)
one_ring_sound ((z ⇒ w) ∷ l) h {p} {q} m = record {
  z = z;
  w = w;
  first = Memᴰ.head refl;
  reaches = λ m. spread_sound ((z ⇒ w) ∷ l) z (length l) (z ∷ []) (λ u k. stay (sym (Memᴰ.eq_of_singleton k))) _
      (among_sound eqb eqb→eq eqb_refl _ (every_at (λ a. among eqb (source_of a) (spread (length l) ((z ⇒ w) ∷ l) (z ∷ []))) ((z ⇒ w) ∷ l) h m));
}

-- the tests in a row
record Passes (n : ℕ) (T : List Row) : Type 0 where
  least : So (leb least_rows (length T))
  most : So (leb (length T) most_rows)
  few : So (leb least_corners n)
  many : So (leb n most_corners)
  fit : So (every (row_fits n) T)
  once : So (differ arrow_eq (edges T))
  both : So (every (λ a. among arrow_eq (turn_back a) (edges T)) (edges T))
  rings : So (every (λ v. one_ring (round v T)) (upto n))
  joined : So (one_ring (edges T))

parts : (n : ℕ) (T : List Row) → So (passes n T) → Passes n T
parts n T h =
    let a₁ = leb least_rows (length T) in
    let a₂ = leb (length T) most_rows in
    let a₃ = leb least_corners n in
    let a₄ = leb n most_corners in
    let a₅ = every (row_fits n) T in
    let a₆ = differ arrow_eq (edges T) in
    let a₇ = every (λ a. among arrow_eq (turn_back a) (edges T)) (edges T) in
    let a₈ = every (λ v. one_ring (round v T)) (upto n) in
    let h₂ = and_r a₁ _ h in
    let h₃ = and_r a₂ _ h₂ in
    let h₄ = and_r a₃ _ h₃ in
    let h₅ = and_r a₄ _ h₄ in
    let h₆ = and_r a₅ _ h₅ in
    let h₇ = and_r a₆ _ h₆ in
    let h₈ = and_r a₇ _ h₇ in
    record {
      least = and_l a₁ _ h;
      most = and_l a₂ _ h₂;
      few = and_l a₃ _ h₃;
      many = and_l a₄ _ h₄;
      fit = and_l a₅ _ h₅;
      once = and_l a₆ _ h₆;
      both = and_l a₇ _ h₇;
      rings = and_l a₈ _ h₈;
      joined = and_r a₈ _ h₈;
    }

-- each row's numbers are below n, and differ
pub rows_below : (n : ℕ) (T : List Row) → So (every (row_fits n) T) → {v p q : ℕ} → Follows T v p q → (v < n) × (v ≢ p)
rows_below n T h f = row_below n f.by (every_at (row_fits n) T h f.here) f.turned

module _ (n : ℕ) (T : List Row) (t : Passes n T) where
  below : (v p q : ℕ) → Follows T v p q → (v < n) × (v ≢ p)
  below v p q f = rows_below n T t.fit f

  apart : Apart T
  apart v p q f = (below v p q f).1

  distinct : Distinct (edges T)
  distinct = differ_sound arrow_eq arrow_sound arrow_whole (edges T) t.once

  both : (p q : ℕ) → Edge T p q → Edge T q p
  both p q e = in_edge T (among_sound arrow_eq arrow_sound arrow_whole (edges T) (every_at (λ a. among arrow_eq (turn_back a) (edges T)) (edges T) t.both (edge_in e)))

  -- all neighbours of v are reached from one
  ring : (v p q : ℕ) → Edge T v p → Edge T v q → Reach (Follows T v) p q
  ring v p q e g =
      let k = one_ring_sound (round v T) (every_at (λ v. one_ring (round v T)) (upto n) t.rings (every_upto n v (below v p e.0 e.1).0)) (round_whole T e.1) in
      ring_from T (once_of_distinct T distinct) apart both v (k.w, round_sound T k.first)
      (λ u d. carry (λ i. i) (λ i j m. one_step (round_sound T m)) (k.reaches (round_whole T d.1))) e g

  joined : (p q : ℕ) → Used T p → Used T q → Reach (Edge T) p q
  joined p q e g =
      let k = one_ring_sound (edges T) t.joined (edge_in e.1) in
      let over : (i j : ℕ) → By (edges T) i j → Reach (Edge T) i j = λ i j m. one_step (in_edge T m) in
      join (go_back both (carry (λ i. i) over (k.reaches (edge_in e.1)))) (carry (λ i. i) over (k.reaches (edge_in g.1)))

pub passes_stage : (n : ℕ) (T : List Row) → So (passes n T) → Stage n T
passes_stage n T h =
    let t = parts n T h in
    record {
      least = leb→le least_rows (length T) t.least;
      most = leb→le (length T) most_rows t.most;
      few = leb→le least_corners n t.few;
      many = leb→le n most_corners t.many;
      below = λ f. (below n T t _ _ _ f).0;
      apart = λ f. apart n T t _ _ _ f;
      once = distinct n T t;
      both = λ e. both n T t _ _ e;
      ring = λ e g. ring n T t _ _ _ e g;
      joined = λ e g. joined n T t _ _ e g;
    }
