-- The link condition as published, and its working form, say the same of a stage.
use mathlib.Core.Path.{◌≡◌, refl, sym}
use mathlib.Core.Logic.{◌≢◌, ◌⊎◌, inl, inr}
use mathlib.Core.List.Memᴰ
use mathlib.Core.List.{List, [], ◌∷◌}
use Prim.Native.Nat.{ℕ}
use native.Mathlib.Omega.{arith}
use Rattle.surface.specs.Lists.{◌∈◌}
use Rattle.surface.specs.Rows.{Row, row, Turned, turn_0}
use Rattle.surface.specs.Table.{Follows, Edge}
use Rattle.surface.specs.Stage.{Stage}
use Rattle.surface.specs.Link.{Meets, Opposite}
use Rattle.surface.proofs.Count.{fits}
use Rattle.surface.proofs.Reaching.{within}
use Rattle.surface.proofs.Once.{turn, Once, row_one, distinct_rows, turn_it}
use Rattle.surface.proofs.Following.{re, re_edge, stage_once, follows_same}

data Of (a b x v : ℕ) : Type 0 where
  of_a : v ≡ a → Of a b x v
  of_b : v ≡ b → Of a b x v
  of_x : v ≡ x → Of a b x v

module _ (n : ℕ) (T : List Row) (s : Stage n T) where
  once_T : Once T
  once_T = stage_once n T s

  one : {v p q q' : ℕ} → Follows T v p q → Follows T v p q' → q ≡ q'
  one f g = follows_same n T s f g

  -- two rows with the same three corners would be the whole table
  pub not_same : {a b x y : ℕ} → Follows T a b x → Follows T b a y → x ≢ y
  not_same {a} {b} {x} {y} abx bay e =
      let k = s.least in
      let h = fits (distinct_rows once_T) (abx.by ∷ bay.by ∷ []) (λ r m. which r m) in
      omega arith
    where
      bax : Follows T b a x
      bax = re refl refl (sym e) bay

      -- round p, where u and w follow each other
      round : {p u w : ℕ} → Follows T p u w → Follows T p w u → {t : ℕ} → Edge T p t → (t ≡ u) ⊎ (t ≡ w)
      round {p} {u} {w} f g e = within (λ t. (t ≡ u) ⊎ (t ≡ w)) (λ i j h. go i j h) (s.ring (w, f) e) (inl refl)
        where
          go : (i j : ℕ) → Follows T p i j → (i ≡ u) ⊎ (i ≡ w) → (j ≡ u) ⊎ (j ≡ w)
          go i j h (inl k) = inr (one (re refl k refl h) f)
          go i j h (inr k) = inl (one (re refl k refl h) g)

      on_a : {t : ℕ} → Edge T a t → (t ≡ b) ⊎ (t ≡ x)
      on_a e = round abx (turn bax) e

      on_b : {t : ℕ} → Edge T b t → (t ≡ x) ⊎ (t ≡ a)
      on_b e = round (turn abx) bax e

      on_x : {t : ℕ} → Edge T x t → (t ≡ a) ⊎ (t ≡ b)
      on_x e = round (turn (turn abx)) (turn (turn bax)) e

      next : (p q : ℕ) → Edge T p q → Of a b x p → Of a b x q
      next p q e (of_a k) = elim (on_a (re_edge k refl e)) [ inl h ↦ of_b h | inr h ↦ of_x h ]
      next p q e (of_b k) = elim (on_b (re_edge k refl e)) [ inl h ↦ of_x h | inr h ↦ of_a h ]
      next p q e (of_x k) = elim (on_x (re_edge k refl e)) [ inl h ↦ of_a h | inr h ↦ of_b h ]

      is_L : {r : Row} {v p q w : ℕ} → r ∈ T → Turned r v p q → Turned abx.by v p w → r ∈ abx.by ∷ bay.by ∷ []
      is_L m t u = Memᴰ.head (row_one once_T m t abx.here u)

      is_R : {r : Row} {v p q w : ℕ} → r ∈ T → Turned r v p q → Turned bay.by v p w → r ∈ abx.by ∷ bay.by ∷ []
      is_R m t u = Memᴰ.tail (Memᴰ.head (row_one once_T m t bay.here u))

      which : (r : Row) → r ∈ T → r ∈ abx.by ∷ bay.by ∷ []
      which (row i j k) m = go (within (Of a b x) next (s.joined (b, (x, abx)) (j, (k, f))) (of_a refl))
        where
          f : Follows T i j k
          f = record { by = row i j k; here = m; turned = turn_0 refl }

          go : Of a b x i → row i j k ∈ abx.by ∷ bay.by ∷ []
          go (of_a h) = elim (on_a (re_edge h refl (k, f))) [
            | inl l ↦ is_L {q = k} m (turn_0 (cc)) abx.turned
            | inr l ↦ is_R {q = k} m (turn_0 (cc)) (turn_it bay.turned)
          ]
          go (of_b h) = elim (on_b (re_edge h refl (k, f))) [
            | inl l ↦ is_L {q = k} m (turn_0 (cc)) (turn_it abx.turned)
            | inr l ↦ is_R {q = k} m (turn_0 (cc)) bay.turned
          ]
          go (of_x h) = elim (on_x (re_edge h refl (k, f))) [
            | inl l ↦ is_L {q = k} m (turn_0 (cc)) (turn_it (turn_it abx.turned))
            | inr l ↦ is_R {q = k} m (turn_0 (cc)) (turn_it (turn_it bay.turned))
          ]

  -- the working form follows from the published one, and the other way round
  pub opposite : {a b : ℕ} → Meets T a b → (x : ℕ) × (y : ℕ) × Opposite T a b x y
  opposite {a} {b} h = (x, y, record { left = l; right = r; two = not_same l r; only = λ e k. go (h.corner e k); no_edge = λ e k. h.no_edge e k })
    where
      x : ℕ
      x = h.edge.0

      l : Follows T a b x
      l = h.edge.1

      y : ℕ
      y = (s.both h.edge).0

      r : Follows T b a y
      r = (s.both h.edge).1

      go : {w : ℕ} → Follows T a b w ⊎ Follows T b a w → (w ≡ x) ⊎ (w ≡ y)
      go (inl f) = inl (one f l)
      go (inr f) = inr (one f r)

  pub meets : {a b x y : ℕ} → Opposite T a b x y → Meets T a b
  meets {a} {b} {x} {y} o = record { edge = (x, o.left); corner = λ e k. go (o.only e k); no_edge = λ e k. o.no_edge e k }
    where
      go : {w : ℕ} → (w ≡ x) ⊎ (w ≡ y) → Follows T a b w ⊎ Follows T b a w
      go (inl e) = inl (re refl refl (sym e) o.left)
      go (inr e) = inr (re refl refl (sym e) o.right)
