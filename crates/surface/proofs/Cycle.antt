-- Steps that lead on from every place of a finite set, and never two to one place, lead back to where they began.
use mathlib.Core.Path.{◌≡◌, refl, sym, ◌∙◌}
use mathlib.Core.Logic.{◌≢◌, ◌⊎◌, inl, inr}
use mathlib.Core.List.Memᴰ
use mathlib.Core.List.{List, [], ◌∷◌, map}
use Prim.Native.Nat.{ℕ, zero, suc, ◌<◌, ◌+◌}
use native.Mathlib.Decide.{ℕ_discrete}
use native.Mathlib.Omega.{arith}
use lib.ListN.{length}
use Rattle.surface.specs.Lists.{◌∈◌, Distinct, none, more, Reach, stay, step}
use Rattle.surface.specs.Rows.{Row}
use Rattle.surface.specs.Table.{Arrow, ◌⇒◌, Follows, Edge, edges}
use Rattle.surface.proofs.Count.{fits}
use Rattle.surface.proofs.Reaching.{join, one_step}
use Rattle.surface.proofs.Once.{turn, Once, Apart, follows_one, edge_in}

-- the places passed from p to z, the last first, without z
data Trail (R : ℕ → ℕ → Type 0) (p : ℕ) : ℕ → List ℕ → Type 0 where
  start : {z : ℕ} → z ≡ p → Trail R p z []
  on : {z z' : ℕ} {l : List ℕ} → Trail R p z l → R z z' → Trail R p z' (z ∷ l)

came_by : {R : ℕ → ℕ → Type 0} {p z : ℕ} {l : List ℕ} → Trail R p z l → {w : ℕ} → w ∈ z ∷ l → (w ≡ p) ⊎ ((u : ℕ) × (u ∈ l) × R u w)
came_by (start e) m = inl (Memᴰ.eq_of_singleton m ∙ e)
came_by {R} {p} (on {z = z} {z' = z'} {l = l} t r) {w} m = go (λ m. came_by t m) (Memᴰ.cases_cons m)
  where
    up : (w ≡ p) ⊎ ((u : ℕ) × (u ∈ l) × R u w) → (w ≡ p) ⊎ ((u : ℕ) × (u ∈ z ∷ l) × R u w)
    up (inl e) = inl e
    up (inr h) = inr (h.0, Memᴰ.tail h.1, h.2)

    go : (w ∈ z ∷ l → (w ≡ p) ⊎ ((u : ℕ) × (u ∈ l) × R u w)) → (w ≡ z') ⊎ (w ∈ z ∷ l) → (w ≡ p) ⊎ ((u : ℕ) × (u ∈ z ∷ l) × R u w)
    go rec (inl e) = inr (z, Memᴰ.head refl, rw e r)
    go rec (inr m) = up (rec m)

module _ (R : ℕ → ℕ → Type 0) (P : ℕ → Type 0) (B : List ℕ)
    (next : (z : ℕ) → P z → (z' : ℕ) × R z z')
    (pass : (z z' : ℕ) → R z z' → P z → P z')
    (apart : (u w z : ℕ) → R u z → R w z → u ≡ w)
    (held : (z : ℕ) → P z → z ∈ B) where
  round : (k p q : ℕ) {z : ℕ} {l : List ℕ} → Trail R p z l → Distinct (z ∷ l) → ((w : ℕ) → w ∈ z ∷ l → P w) → Reach R q z → length B < k + length (z ∷ l) → Reach R q p
  round zero p q t d all c h =
      let k = fits d B (λ w m. held w (all w m)) in
      absurd (omega arith)
  round (suc k) p q {z} {l} t d all c h = go (ℕ_discrete z' p) (λ d'. round k p q (on t r) d' all' (join c (one_step r)) (omega arith))
    where
      n : (z' : ℕ) × R z z'
      n = next z (all z (Memᴰ.head refl))

      z' : ℕ
      z' = n.0

      r : R z z'
      r = n.1

      old : Distinct (z ∷ l) → ¬ (z ∈ l)
      old (more k d) = k

      new : z' ≢ p → ¬ (z' ∈ z ∷ l)
      new np m = back (came_by t m)
        where
          back : (z' ≡ p) ⊎ ((u : ℕ) × (u ∈ l) × R u z') → ⊥
          back (inl e) = np e
          back (inr w) = old d (Memᴰ.cast (apart z w.0 z' r w.2) w.1)

      all' : (w : ℕ) → w ∈ z' ∷ z ∷ l → P w
      all' w m = either (Memᴰ.cases_cons m)
        where
          either : (w ≡ z') ⊎ (w ∈ z ∷ l) → P w
          either (inl e) = rw e (pass z z' r (all z (Memᴰ.head refl)))
          either (inr m) = all w m

      go : Dec (z' ≡ p) → (Distinct (z' ∷ z ∷ l) → Reach R q p) → Reach R q p
      go (yes e) rec = join c (rw (sym e) (one_step r))
      go (no np) rec = rec (more (new np) d)

  -- a step can be gone back on
  pub step_back : (p q : ℕ) → P p → R p q → Reach R q p
  step_back p q hp r = go (ℕ_discrete q p)
    where
      l : List ℕ
      l = p ∷ []

      two : (w : ℕ) → (w ≡ q) ⊎ (w ∈ p ∷ []) → P w
      two w (inl e) = rw e (pass p q r hp)
      two w (inr m) = rw (Memᴰ.eq_of_singleton m) hp

      go : Dec (q ≡ p) → Reach R q p
      go (yes e) = stay e
      go (no n) =
          round (length B) p q (on (start refl) r) (more (λ m. n (Memᴰ.eq_of_singleton m)) (more Memᴰ.not-nil none))
          (λ w m. two w (Memᴰ.cases_cons m)) (stay refl) (omega arith)

  pub reach_back : {p q : ℕ} → P p → Reach R p q → Reach R q p
  reach_back hp (stay e) = stay (sym e)
  reach_back {p} hp (step {t = t} r c) = join (reach_back (pass p t r hp) c) (step_back p t hp r)

target : Arrow → ℕ
target (p ⇒ q) = q

-- round a corner one can go back, so that one neighbour that reaches all makes a ring
module _ (T : List Row) (o : Once T) (d : Apart T) (both : (p q : ℕ) → Edge T p q → Edge T q p) (v : ℕ) where
  pub round_back : {p q : ℕ} → Edge T v p → Reach (Follows T v) p q → Reach (Follows T v) q p
  unfolding target
  round_back e c =
      reach_back (Follows T v) (λ z. Edge T v z) (map target (edges T)) (λ z h. h)
      (λ z z' r h. both z' v (z, turn (turn r)))
      (λ u w z f g. follows_one o d (turn (turn f)) (turn (turn g)))
      (λ z h. Memᴰ.map target (edge_in h)) e c

  pub ring_from : {p : ℕ} → Edge T v p → ((q : ℕ) → Edge T v q → Reach (Follows T v) p q) → {q w : ℕ} → Edge T v q → Edge T v w → Reach (Follows T v) q w
  ring_from e all hq hw = join (round_back e (all _ hq)) (all _ hw)
