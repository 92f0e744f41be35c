-- Where the opposite corners are the only common neighbours, an edge in both links is found in a table of four rows alone.
use mathlib.Core.Path.{◌≡◌, refl, sym, ◌∙◌}
use mathlib.Core.Logic.{◌≢◌, ◌⊎◌, inl, inr}
use mathlib.Core.List.Memᴰ
use mathlib.Core.List.{List, [], ◌∷◌}
use Prim.Native.Nat.{ℕ}
use lib.ListN.{length}
use native.Mathlib.Omega.{arith}
use Rattle.surface.specs.Lists.{◌∈◌}
use Rattle.surface.specs.Rows.{Row, row, Turned, turn_0}
use Rattle.surface.specs.Table.{Follows, Edge}
use Rattle.surface.specs.Stage.{Stage}
use Rattle.surface.specs.Link.{Link}
use Rattle.surface.proofs.Count.{fits}
use Rattle.surface.proofs.Reaching.{within}
use Rattle.surface.proofs.Once.{turn, Once, row_one, distinct_rows, turn_it}
use Rattle.surface.proofs.Following.{re, re_edge, stage_once, follows_same as one}
use Rattle.surface.proofs.Linked.{not_same}

-- one of three
pub data Of₃ (a b c v : ℕ) : Type 0 where
  is_a : v ≡ a → Of₃ a b c v
  is_b : v ≡ b → Of₃ a b c v
  is_c : v ≡ c → Of₃ a b c v

data Of₄ (a b x y v : ℕ) : Type 0 where
  of_a : v ≡ a → Of₄ a b x y v
  of_b : v ≡ b → Of₄ a b x y v
  of_x : v ≡ x → Of₄ a b x y v
  of_y : v ≡ y → Of₄ a b x y v

module _ (n : ℕ) (T : List Row) (s : Stage n T) where
  once_T : Once T
  once_T = stage_once n T s

  -- round v, where p, q and r follow each other, there is no other neighbour
  pub round : {v p q r : ℕ} → Follows T v p q → Follows T v q r → Follows T v r p → {t : ℕ} → Edge T v t → Of₃ p q r t
  round {v} {p} {q} {r} f g h e = within (Of₃ p q r) next (s.ring (q, f) e) (is_a refl)
    where
      next : (i j : ℕ) → Follows T v i j → Of₃ p q r i → Of₃ p q r j
      next i j k (is_a l) = is_b (one n T s (re refl l refl k) f)
      next i j k (is_b l) = is_c (one n T s (re refl l refl k) g)
      next i j k (is_c l) = is_a (one n T s (re refl l refl k) h)

  -- four rows on four corners are the whole table
  pub four_rows : {a b x y : ℕ} → Follows T a b x → Follows T b a y → Follows T a x y → Follows T b y x → length T ≡ 4
  four_rows {a} {b} {x} {y} abx bay axy byx =
      let k = s.least in
      let h = fits (distinct_rows once_T) Rs (λ r m. which r m) in
      omega arith
    where
      Rs : List Row
      Rs = abx.by ∷ bay.by ∷ axy.by ∷ byx.by ∷ []

      on_a : {t : ℕ} → Edge T a t → Of₃ b x y t
      on_a e = round abx axy (turn bay) e

      on_b : {t : ℕ} → Edge T b t → Of₃ a y x t
      on_b e = round bay byx (turn abx) e

      on_x : {t : ℕ} → Edge T x t → Of₃ a b y t
      on_x e = round (turn (turn abx)) (turn (turn byx)) (turn axy) e

      on_y : {t : ℕ} → Edge T y t → Of₃ b a x t
      on_y e = round (turn (turn bay)) (turn (turn axy)) (turn byx) e

      next : (i j : ℕ) → Edge T i j → Of₄ a b x y i → Of₄ a b x y j
      next i j e (of_a k) = elim (on_a (re_edge k refl e)) [ is_a h ↦ of_b h | is_b h ↦ of_x h | is_c h ↦ of_y h ]
      next i j e (of_b k) = elim (on_b (re_edge k refl e)) [ is_a h ↦ of_a h | is_b h ↦ of_y h | is_c h ↦ of_x h ]
      next i j e (of_x k) = elim (on_x (re_edge k refl e)) [ is_a h ↦ of_a h | is_b h ↦ of_b h | is_c h ↦ of_y h ]
      next i j e (of_y k) = elim (on_y (re_edge k refl e)) [ is_a h ↦ of_b h | is_b h ↦ of_a h | is_c h ↦ of_x h ]

      at_0 : {r : Row} {v p q w : ℕ} → r ∈ T → Turned r v p q → Turned abx.by v p w → r ∈ Rs
      at_0 m t u = Memᴰ.head (row_one once_T m t abx.here u)

      at_1 : {r : Row} {v p q w : ℕ} → r ∈ T → Turned r v p q → Turned bay.by v p w → r ∈ Rs
      at_1 m t u = Memᴰ.tail (Memᴰ.head (row_one once_T m t bay.here u))

      at_2 : {r : Row} {v p q w : ℕ} → r ∈ T → Turned r v p q → Turned axy.by v p w → r ∈ Rs
      at_2 m t u = Memᴰ.tail (Memᴰ.tail (Memᴰ.head (row_one once_T m t axy.here u)))

      at_3 : {r : Row} {v p q w : ℕ} → r ∈ T → Turned r v p q → Turned byx.by v p w → r ∈ Rs
      at_3 m t u = Memᴰ.tail (Memᴰ.tail (Memᴰ.tail (Memᴰ.head (row_one once_T m t byx.here u))))

      which : (r : Row) → r ∈ T → r ∈ Rs
      which (row i j k) m = go (within (Of₄ a b x y) next (s.joined (b, (x, abx)) (j, (k, f))) (of_a refl))
        where
          f : Follows T i j k
          f = record { by = row i j k; here = m; turned = turn_0 refl }

          to : {v p : ℕ} → i ≡ v → j ≡ p → Turned (row i j k) v p k
          to ev ep = turn_0 (cc)

          go : Of₄ a b x y i → row i j k ∈ Rs
          go (of_a h) = elim (on_a (re_edge h refl (k, f))) [
            | is_a l ↦ at_0 m (to h l) abx.turned
            | is_b l ↦ at_2 m (to h l) axy.turned
            | is_c l ↦ at_1 m (to h l) (turn_it bay.turned)
          ]
          go (of_b h) = elim (on_b (re_edge h refl (k, f))) [
            | is_a l ↦ at_1 m (to h l) bay.turned
            | is_b l ↦ at_3 m (to h l) byx.turned
            | is_c l ↦ at_0 m (to h l) (turn_it abx.turned)
          ]
          go (of_x h) = elim (on_x (re_edge h refl (k, f))) [
            | is_a l ↦ at_0 m (to h l) (turn_it (turn_it abx.turned))
            | is_b l ↦ at_3 m (to h l) (turn_it (turn_it byx.turned))
            | is_c l ↦ at_2 m (to h l) (turn_it axy.turned)
          ]
          go (of_y h) = elim (on_y (re_edge h refl (k, f))) [
            | is_a l ↦ at_1 m (to h l) (turn_it (turn_it bay.turned))
            | is_b l ↦ at_2 m (to h l) (turn_it (turn_it axy.turned))
            | is_c l ↦ at_3 m (to h l) (turn_it byx.turned)
          ]

  -- source document 000, Proposition 6
  pub tetrahedron : {a b x y p q : ℕ} → Follows T a b x → Follows T b a y → ((w : ℕ) → Edge T a w → Edge T b w → (w ≡ x) ⊎ (w ≡ y)) →
      Link T a p q → Link T b p q → length T ≡ 4
  tetrahedron {a} {b} {x} {y} {p} {q} abx bay only la lb = go la lb
    where
      nx : x ≢ y
      nx = not_same n T s abx bay

      -- the corners of an edge of both links
      end : {p q : ℕ} → Link T a p q → Edge T a p
      end {q = q} (inl f) = (q, f)
      end {q = q} (inr f) = s.both (q, turn (turn f))

      end_b : {p q : ℕ} → Link T b p q → Edge T b p
      end_b {q = q} (inl f) = (q, f)
      end_b {q = q} (inr f) = s.both (q, turn (turn f))

      swap : {v p q : ℕ} → Link T v p q → Link T v q p
      swap (inl f) = inr f
      swap (inr f) = inl f

      -- an arrow of both links runs x to y round a, and y to x round b
      runs : {p q : ℕ} → Follows T a p q → Link T b p q → (p ≡ x) × (q ≡ y)
      runs {p} {q} f l = at (only p (q, f) (end_b l)) (only q (end (inr f)) (end_b (swap l)))
        where
          at : (p ≡ x) ⊎ (p ≡ y) → (q ≡ x) ⊎ (q ≡ y) → (p ≡ x) × (q ≡ y)
          at (inl e) (inl k) = absurd (s.apart (turn f) (e ∙ sym k))
          at (inl e) (inr k) = (e, k)
          at (inr e) k = absurd (s.apart (end_b (swap l)).1 (sym (one n T s (re refl e refl f) (turn bay))))

      runs_b : {p q : ℕ} → Follows T b p q → Link T a p q → (p ≡ y) × (q ≡ x)
      runs_b {p} {q} f l = at (only p (end l) (q, f)) (only q (end (swap l)) (end_b (inr f)))
        where
          at : (p ≡ x) ⊎ (p ≡ y) → (q ≡ x) ⊎ (q ≡ y) → (p ≡ y) × (q ≡ x)
          at (inl e) k = absurd (s.apart (end (swap l)).1 (sym (one n T s (re refl e refl f) (turn abx))))
          at (inr e) (inl k) = (e, k)
          at (inr e) (inr k) = absurd (s.apart (turn f) (e ∙ sym k))

      go : {p q : ℕ} → Link T a p q → Link T b p q → length T ≡ 4
      go (inl f) (inl g) =
          let k = runs f (inl g) in let l = runs_b g (inl f) in absurd (nx (sym k.0 ∙ l.0))
      go (inl f) (inr g) =
          let k = runs f (inr g) in
          four_rows abx bay (re refl k.0 k.1 f) (re refl k.1 k.0 g)
      go (inr f) (inl g) =
          let k = runs f (inr g) in
          four_rows abx bay (re refl k.0 k.1 f) (re refl k.1 k.0 g)
      go (inr f) (inr g) =
          let k = runs f (inl g) in let l = runs_b g (inl f) in absurd (nx (sym k.0 ∙ l.0))
