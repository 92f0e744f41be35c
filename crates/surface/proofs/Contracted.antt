-- A contraction of an edge that meets the link condition makes a stage of a stage.
use mathlib.Core.Path.{◌≡◌, refl, sym, ◌∙◌, ap}
use mathlib.Core.Logic.{◌≢◌, ◌⊎◌, inl, inr, ite}
use mathlib.Core.List.Memᴰ
use mathlib.Core.List.{List, [], ◌∷◌, map, filter}
use Prim.Native.Nat.{ℕ, ◌≤◌, ◌<◌, ◌+◌}
use lib.ListN.{length}
use native.Mathlib.Decide.{ℕ_discrete}
use native.Mathlib.Omega.{arith}
use Rattle.surface.specs.Lists.{◌∈◌, Reach, stay, Distinct, none, more}
use Rattle.surface.specs.Rows.{Row, row, Turned, turn_0, turn_1, turn_2}
use Rattle.surface.specs.Table.{Follows, Edge, Used, edges}
use Rattle.surface.specs.Stage.{Stage}
use Rattle.surface.specs.Link.{Opposite}
use Rattle.surface.specs.Contract.{Holds, at_0, at_1, at_2, holds?, Stays, stays?, replace, renumber, contract}
use Rattle.surface.proofs.Count.{fits, distinct_filter, not_two, length-map}
use Rattle.surface.proofs.Reaching.{join, one_step, carry, Past, after, before}
use Rattle.surface.proofs.Once.{turn, Once, once_none, once_more, same_second, turn_it, row_one, distinct_rows, distinct_of_once}
use Rattle.surface.proofs.Following.{re, re_edge, Gone, left_0, left_1, left_2, right_0, right_1, right_2, stage_once, follows_same}
use Rattle.surface.proofs.Renumber.{filter_in, filter_out, holds_turned, turned_holds, replace_at, replace_off, replace_same, keep, came, Source, source, stays_turned}

module _ (n : ℕ) (T : List Row) (a b x y : ℕ) (s : Stage n T) (o : Opposite T a b x y) where
  pub once_T : Once T
  once_T = stage_once n T s

  pub one : {v p q q' : ℕ} → Follows T v p q → Follows T v p q' → q ≡ q'
  one f g = follows_same n T s f g

  pub one_back : {v p p' q : ℕ} → Follows T v p q → Follows T v p' q → p ≡ p'
  one_back f g = one (turn (turn f)) (turn (turn g))

  pub abx : Follows T a b x
  abx = o.left

  pub bxa : Follows T b x a
  bxa = turn abx

  pub xab : Follows T x a b
  xab = turn bxa

  pub bay : Follows T b a y
  bay = o.right

  pub ayb : Follows T a y b
  ayb = turn bay

  pub yba : Follows T y b a
  yba = turn ayb

  pub a≢b : a ≢ b
  a≢b = s.apart abx

  pub b≢x : b ≢ x
  b≢x = s.apart bxa

  pub x≢a : x ≢ a
  x≢a = s.apart xab

  pub a≢y : a ≢ y
  a≢y = s.apart ayb

  pub y≢b : y ≢ b
  y≢b = s.apart yba

  pub kept? : {v p q : ℕ} → Follows T v p q → Stays a b (row v p q) ⊎ Gone a b x y v p q
  kept? {v} {p} {q} f = go (holds? (row v p q) a) (holds? (row v p q) b)
    where
      both : Holds (row v p q) a → Holds (row v p q) b → Gone a b x y v p q
      both (at_0 e) (at_0 k) = absurd (a≢b (cc))
      both (at_0 e) (at_1 k) = left_0 (sym e) (sym k) (one (re (sym e) (sym k) refl f) abx)
      both (at_0 e) (at_2 k) = right_1 (sym e) (one_back (re (sym e) refl (sym k) f) ayb) (sym k)
      both (at_1 e) (at_0 k) = right_0 (sym k) (sym e) (one (re (sym k) (sym e) refl f) bay)
      both (at_1 e) (at_1 k) = absurd (a≢b (cc))
      both (at_1 e) (at_2 k) = left_2 (one (turn (re refl (sym e) (sym k) f)) abx) (sym e) (sym k)
      both (at_2 e) (at_0 k) = left_1 (sym k) (one_back (re (sym k) refl (sym e) f) bxa) (sym e)
      both (at_2 e) (at_1 k) = right_2 (one (turn (re refl (sym k) (sym e) f)) bay) (sym k) (sym e)
      both (at_2 e) (at_2 k) = absurd (a≢b (cc))

      go : Dec (Holds (row v p q) a) → Dec (Holds (row v p q) b) → Stays a b (row v p q) ⊎ Gone a b x y v p q
      go (no na) d = inl (λ h. na h.0)
      go (yes ha) (no nb) = inl (λ h. nb h.1)
      go (yes ha) (yes hb) = inr (both ha hb)

  -- a row with a and without b stays, and the other way round
  pub stays_a : {v p q : ℕ} → v ≢ b → p ≢ b → q ≢ b → Stays a b (row v p q)
  stays_a {v} {p} {q} nv np nq h = go h.1
    where
      go : ¬ Holds (row v p q) b
      go (at_0 e) = nv (sym e)
      go (at_1 e) = np (sym e)
      go (at_2 e) = nq (sym e)

  pub stays_b : {v p q : ℕ} → v ≢ a → p ≢ a → q ≢ a → Stays a b (row v p q)
  stays_b {v} {p} {q} nv np nq h = go h.0
    where
      go : ¬ Holds (row v p q) a
      go (at_0 e) = nv (sym e)
      go (at_1 e) = np (sym e)
      go (at_2 e) = nq (sym e)

  abbrev pub T' : List Row
  T' = contract a b T

  abbrev pub f : ℕ → ℕ
  f = replace a b

  pub fb : f b ≡ a
  fb = replace_at a b refl

  pub fa : f a ≡ a
  fa = replace_off a b a≢b

  -- the four rows beyond the two that leave
  pub ax : (w : ℕ) × Follows T a x w × Stays a b (row a x w)
  ax = let e = s.both (b, xab) in
      (e.0, e.1, stays_a a≢b (λ k. b≢x (sym k)) (λ k. o.two (one (turn (turn (re refl refl k e.1))) bay)))

  pub xb : (w : ℕ) × Follows T x b w × Stays a b (row x b w)
  xb = let e = s.both (a, bxa) in
      (e.0, e.1, stays_b x≢a (λ k. a≢b (sym k)) (λ k. o.two (one (turn (re refl refl k e.1)) bay)))

  pub by : (w : ℕ) × Follows T b y w × Stays a b (row b y w)
  by = let e = s.both (a, yba) in
      (e.0, e.1, stays_b (λ k. a≢b (sym k)) (λ k. a≢y (sym k)) (λ k. o.two (one abx (turn (turn (re refl refl k e.1))))))

  pub ya : (w : ℕ) × Follows T y a w × Stays a b (row y a w)
  ya = let e = s.both (b, ayb) in
      (e.0, e.1, stays_a y≢b a≢b (λ k. o.two (one abx (turn (re refl refl k e.1)))))

  -- an edge of the table is one of the contracted table, or its ends are one corner there
  pub edge_kept : {p q : ℕ} → Edge T p q → (f p ≡ f q) ⊎ Edge T' (f p) (f q)
  edge_kept {p} {q} e = go (kept? e.1)
    where
      go : Stays a b (row p q e.0) ⊎ Gone a b x y p q e.0 → (f p ≡ f q) ⊎ Edge T' (f p) (f q)
      go (inl k) = inr (f e.0, keep a b e.1 k)
      go (inr (left_0 ep eq _)) = inl (ap f ep ∙ fa ∙ sym fb ∙ sym (ap f eq))
      go (inr (left_1 ep eq _)) = inr (f ax.0, re (fa ∙ sym fb ∙ sym (ap f ep)) (sym (ap f eq)) refl (keep a b ax.1 ax.2))
      go (inr (left_2 ep eq _)) = inr (f xb.0, re (sym (ap f ep)) (fb ∙ sym fa ∙ sym (ap f eq)) refl (keep a b xb.1 xb.2))
      go (inr (right_0 ep eq _)) = inl (ap f ep ∙ fb ∙ sym fa ∙ sym (ap f eq))
      go (inr (right_1 ep eq _)) = inr (f by.0, re (fb ∙ sym fa ∙ sym (ap f ep)) (sym (ap f eq)) refl (keep a b by.1 by.2))
      go (inr (right_2 ep eq _)) = inr (f ya.0, re (sym (ap f ep)) (fa ∙ sym fb ∙ sym (ap f eq)) refl (keep a b ya.1 ya.2))

  -- the numbers of a row that stays have different images
  pub apart_kept : {v p q : ℕ} → Follows T v p q → Stays a b (row v p q) → f v ≢ f p
  apart_kept {v} {p} {q} g k e = go (replace_same a b e)
    where
      go : (v ≡ p) ⊎ (((v ≡ a) × (p ≡ b)) ⊎ ((v ≡ b) × (p ≡ a))) → ⊥
      go (inl e) = s.apart g e
      go (inr (inl h)) = k (at_0 (sym h.0), at_1 (sym h.1))
      go (inr (inr h)) = k (at_1 (sym h.1), at_0 (sym h.0))

  pub apart' : {v p q : ℕ} → Follows T' v p q → v ≢ p
  apart' g e = let c = source a b g in apart_kept c.was c.stays (c.on_v ∙ e ∙ sym c.on_p)

  pub below' : {v p q : ℕ} → Follows T' v p q → v < n
  below' {v} {p} {q} g = go (ℕ_discrete c.v b)
    where
      c : Source a b T v p q
      c = source a b g

      go : Dec (c.v ≡ b) → v < n
      go (yes e) = rw (sym c.on_v ∙ replace_at a b e) (s.below abx)
      go (no k) = rw (sym c.on_v ∙ replace_off a b k) (s.below c.was)

  pub both' : {p q : ℕ} → Edge T' p q → Edge T' q p
  both' {p} {q} e = go (edge_kept (s.both (c.q, c.was)))
    where
      c : Source a b T p q e.0
      c = source a b e.1

      go : (f c.p ≡ f c.v) ⊎ Edge T' (f c.p) (f c.v) → Edge T' q p
      go (inl k) = absurd (apart_kept c.was c.stays (sym k))
      go (inr k) = re_edge c.on_p c.on_v k

  pub joined' : {p q : ℕ} → Used T' p → Used T' q → Reach (Edge T') p q
  joined' {p} {q} u w =
      let c = source a b u.1.1 in
      let d = source a b w.1.1 in
      rw (sym c.on_v, sym d.on_v) (carry f (λ i j e. go i j (edge_kept e)) (s.joined (c.p, (c.q, c.was)) (d.p, (d.q, d.was))))
    where
      go : (i j : ℕ) → (f i ≡ f j) ⊎ Edge T' (f i) (f j) → Reach (Edge T') (f i) (f j)
      go i j (inl e) = stay e
      go i j (inr e) = one_step e

  -- round a corner that is neither a nor b
  pub step_elsewhere : {v : ℕ} → v ≢ a → v ≢ b → (i j : ℕ) → Follows T v i j → Reach (Follows T' v) (f i) (f j)
  step_elsewhere {v} na nb i j g = go (kept? g)
    where
      go : Stays a b (row v i j) ⊎ Gone a b x y v i j → Reach (Follows T' v) (f i) (f j)
      go (inl k) = one_step (re (replace_off a b nb) refl refl (keep a b g k))
      go (inr (left_0 e _ _)) = absurd (na e)
      go (inr (left_1 e _ _)) = absurd (nb e)
      go (inr (left_2 _ ei ej)) = stay (ap f ei ∙ fa ∙ sym fb ∙ sym (ap f ej))
      go (inr (right_0 e _ _)) = absurd (nb e)
      go (inr (right_1 e _ _)) = absurd (na e)
      go (inr (right_2 _ ei ej)) = stay (ap f ei ∙ fb ∙ sym fa ∙ sym (ap f ej))

  pub re_stays : {v p q v' p' q' : ℕ} → v ≡ v' → p ≡ p' → q ≡ q' → Stays a b (row v p q) → Stays a b (row v' p' q')
  re_stays ev ep eq k = rw eq at (rw ep at (rw ev at k))

  -- a row of the contracted table, read round a, was a row round a or round b
  pub data Whence (p q : ℕ) : Type 0 where
    round_a : Follows T a p q → Stays a b (row a p q) → Whence p q
    round_b : Follows T b p q → Stays a b (row b p q) → Whence p q

  pub whence : {p q : ℕ} → Follows T' a p q → Whence p q
  whence {p} {q} g = go (ℕ_discrete c.v b)
    where
      c : Source a b T a p q
      c = source a b g

      is : {u : ℕ} → u ≢ b → {w : ℕ} → replace a b u ≡ w → u ≡ w
      is n e = sym (replace_off a b n) ∙ e

      go : Dec (c.v ≡ b) → Whence p q
      go (yes e) =
          let ep = is (λ k. s.apart c.was (e ∙ sym k)) c.on_p in
          let eq = is (λ k. s.apart (turn (turn c.was)) (k ∙ sym e)) c.on_q in
          round_b (re e ep eq c.was) (re_stays e ep eq c.stays)
      go (no n) =
          let ev = is n c.on_v in
          let ep = is (λ k. c.stays (at_0 (sym ev), at_1 (sym k))) c.on_p in
          let eq = is (λ k. c.stays (at_0 (sym ev), at_2 (sym k))) c.on_q in
          round_a (re ev ep eq c.was) (re_stays ev ep eq c.stays)

  -- the neighbours of a in the contracted table were neighbours of a or of b
  pub data Side (p : ℕ) : Type 0 where
    of_a : Edge T a p → p ≢ b → Side p
    of_b : Edge T b p → p ≢ a → Side p

  pub side : {p : ℕ} → Edge T' a p → Side p
  side {p} e = go (whence e.1)
    where
      go : Whence p e.0 → Side p
      go (round_a f k) = of_a (e.0, f) (λ h. k (at_0 refl, at_1 (sym h)))
      go (round_b f k) = of_b (e.0, f) (λ h. k (at_1 (sym h), at_0 refl))

  pub on_a : {i j : ℕ} → Past (Follows T a) b i j → Follows T' a i j
  on_a g = re fa (replace_off a b g.1) (replace_off a b g.2) (keep a b g.0 (stays_a a≢b g.1 g.2))

  pub on_b : {i j : ℕ} → Past (Follows T b) a i j → Follows T' a i j
  on_b g =
      re fb (replace_off a b (λ k. s.apart g.0 (sym k))) (replace_off a b (λ k. s.apart (turn (turn g.0)) k))
      (keep a b g.0 (stays_b (λ k. a≢b (sym k)) g.1 g.2))

  pub step_a : (i j : ℕ) → Past (Follows T a) b i j → Reach (Follows T' a) i j
  step_a i j g = one_step (on_a g)

  pub step_b : (i j : ℕ) → Past (Follows T b) a i j → Reach (Follows T' a) i j
  step_b i j g = one_step (on_b g)

  pub x_to : {p : ℕ} → Edge T a p → p ≢ b → Reach (Follows T' a) x p
  x_to {p} e np = go (after b {x = x} (λ t g. one g abx) np (s.ring (x, abx) e))
    where
      go : ((b ≢ b) × Reach (Past (Follows T a) b) b p) ⊎ Reach (Past (Follows T a) b) x p → Reach (Follows T' a) x p
      go (inl h) = absurd (h.0 refl)
      go (inr c) = carry (λ i. i) step_a c

  pub to_y : {p : ℕ} → Edge T a p → p ≢ b → Reach (Follows T' a) p y
  to_y {p} e np = carry (λ i. i) step_a (before b {y = y} (λ t g. one_back g ayb) refl np (s.ring e (x, abx)))

  pub y_to : {p : ℕ} → Edge T b p → p ≢ a → Reach (Follows T' a) y p
  y_to {p} e np = go (after a {x = y} (λ t g. one g bay) np (s.ring (y, bay) e))
    where
      go : ((a ≢ a) × Reach (Past (Follows T b) a) a p) ⊎ Reach (Past (Follows T b) a) y p → Reach (Follows T' a) y p
      go (inl h) = absurd (h.0 refl)
      go (inr c) = carry (λ i. i) step_b c

  pub to_x : {p : ℕ} → Edge T b p → p ≢ a → Reach (Follows T' a) p x
  to_x {p} e np = carry (λ i. i) step_b (before a {y = x} (λ t g. one_back g bxa) refl np (s.ring e (y, bay)))

  pub xy : Reach (Follows T' a) x y
  xy = x_to (b, ayb) y≢b

  pub yx : Reach (Follows T' a) y x
  yx = y_to (a, bxa) x≢a

  pub from_side : {p : ℕ} → Side p → Reach (Follows T' a) p y
  from_side (of_a e np) = to_y e np
  from_side (of_b e np) = join (to_x e np) xy

  pub to_side : {p : ℕ} → Side p → Reach (Follows T' a) y p
  to_side (of_a e np) = join yx (x_to e np)
  to_side (of_b e np) = y_to e np

  pub ring' : {v p q : ℕ} → Edge T' v p → Edge T' v q → Reach (Follows T' v) p q
  ring' {v} {p} {q} e g = go (ℕ_discrete v a)
    where
      c : Source a b T v p e.0
      c = source a b e.1

      d : Source a b T v q g.0
      d = source a b g.1

      back : v ≢ a → {u : ℕ} → f u ≡ v → (u ≡ v) × (v ≢ b)
      back na {u} k = go' (ℕ_discrete u b)
        where
          go' : Dec (u ≡ b) → (u ≡ v) × (v ≢ b)
          go' (yes e) = absurd (na (sym k ∙ replace_at a b e))
          go' (no nu) = let eu = sym (replace_off a b nu) ∙ k in (eu, λ h. nu (eu ∙ h))

      go : Dec (v ≡ a) → Reach (Follows T' v) p q
      go (yes ev) = rw ev (join (from_side (side (re_edge ev refl e))) (to_side (side (re_edge ev refl g))))
      go (no nv) =
          let kc = back nv c.on_v in
          let kd = back nv d.on_v in
          rw (sym c.on_p, sym d.on_p)
          (carry f (step_elsewhere nv kc.1) (s.ring (re_edge kc.0 refl (c.q, c.was)) (re_edge kd.0 refl (d.q, d.was))))

  -- two edges of rows that stay have one image only if they are one edge
  pub clash_v : {p q q₂ : ℕ} → Follows T a p q → Stays a b (row a p q) → Follows T b p q₂ → Stays a b (row b p q₂) → ⊥
  clash_v {p} {q} {q₂} g k h l = go (o.only (q, g) (q₂, h))
    where
      go : (p ≡ x) ⊎ (p ≡ y) → ⊥
      go (inl e) = l (at_2 (one bxa (re refl e refl h)), at_0 refl)
      go (inr e) = k (at_0 refl, at_2 (one ayb (re refl e refl g)))

  pub clash_p : {v q q₂ : ℕ} → Follows T v a q → Stays a b (row v a q) → Follows T v b q₂ → Stays a b (row v b q₂) → ⊥
  clash_p {v} {q} {q₂} g k h l = go (o.only (s.both (q, g)) (s.both (q₂, h)))
    where
      go : (v ≡ x) ⊎ (v ≡ y) → ⊥
      go (inl e) = k (at_1 refl, at_2 (one xab (re e refl refl g)))
      go (inr e) = l (at_2 (one yba (re e refl refl h)), at_1 refl)

  pub clash : {v p q v₂ p₂ q₂ : ℕ} → Follows T v p q → Stays a b (row v p q) → Follows T v₂ p₂ q₂ → Stays a b (row v₂ p₂ q₂) → f v ≡ f v₂ → f p ≡ f p₂ → (v ≡ v₂) × (p ≡ p₂)
  clash {v} {p} {q} {v₂} {p₂} {q₂} g k h l ev ep = go (replace_same a b ev) (replace_same a b ep)
    where
      go : (v ≡ v₂) ⊎ (((v ≡ a) × (v₂ ≡ b)) ⊎ ((v ≡ b) × (v₂ ≡ a))) → (p ≡ p₂) ⊎ (((p ≡ a) × (p₂ ≡ b)) ⊎ ((p ≡ b) × (p₂ ≡ a))) → (v ≡ v₂) × (p ≡ p₂)
      go (inl e) (inl e₂) = (e, e₂)
      go (inl e) (inr (inl m)) = absurd (clash_p (re e m.0 refl g) (re_stays e m.0 refl k) (re refl m.1 refl h) (re_stays refl m.1 refl l))
      go (inl e) (inr (inr m)) = absurd (clash_p (re refl m.1 refl h) (re_stays refl m.1 refl l) (re e m.0 refl g) (re_stays e m.0 refl k))
      go (inr (inl m)) (inl e) = absurd (clash_v (re m.0 e refl g) (re_stays m.0 e refl k) (re m.1 refl refl h) (re_stays m.1 refl refl l))
      go (inr (inl m)) (inr (inl t)) = absurd (s.apart g (cc))
      go (inr (inl m)) (inr (inr t)) = absurd (k (at_0 (cc), at_1 (cc)))
      go (inr (inr m)) (inl e) = absurd (clash_v (re m.1 refl refl h) (re_stays m.1 refl refl l) (re m.0 e refl g) (re_stays m.0 e refl k))
      go (inr (inr m)) (inr (inl t)) = absurd (k (at_1 (cc), at_0 (cc)))
      go (inr (inr m)) (inr (inr t)) = absurd (s.apart g (cc))

  pub once_on : (U : List Row) → ((r : Row) → r ∈ U → r ∈ T) → Once U → Once (contract a b U)
  unfolding contract
  once_on [] sub u = once_none
  once_on (r ∷ U) sub (once_more new u) = go (stays? a b r) (once_on U (λ r m. sub r (Memᴰ.tail m)) u)
    where
      lift : {v p q : ℕ} → Follows U v p q → Follows T v p q
      lift g = record { by = g.by; here = sub g.by (Memᴰ.tail g.here); turned = g.turned }

      fresh : Stays a b r → (v p q : ℕ) → Turned (renumber a b r) v p q → ¬ Edge (contract a b U) v p
      fresh k v p q t e =
          let c = came a b r t in
          let d = source a b e.1 in
          let w = clash (record { by = r; here = sub r (Memᴰ.head refl); turned = c.was }) (stays_turned a b c.was k)
          (lift d.was) d.stays (c.on_v ∙ sym d.on_v) (c.on_p ∙ sym d.on_p) in
          new _ _ _ c.was (d.q, re (sym w.0) (sym w.1) refl d.was)

      go : (d : Dec (Stays a b r)) → Once (contract a b U) → Once (map (renumber a b) (ite {C = List Row} d (r ∷ filter (stays? a b) U) (filter (stays? a b) U)))
      go (yes k) rec = once_more (fresh k) rec
      go (no k) rec = rec

  pub once' : Distinct (edges T')
  once' = distinct_of_once (contract a b T) (once_on T (λ r m. m) once_T) (λ v p q g. apart' g)

  -- two rows leave, and no other
  pub L : Row
  L = abx.by

  pub R : Row
  R = bay.by

  pub L≢R : L ≢ R
  unfolding L R abx bay
  L≢R e =
      y≢b (sym (same_second (λ v p q t. s.apart (record { by = R; here = bay.here; turned = t })) (rw e at abx.turned) (turn_it bay.turned)))

  pub leaves : (r : Row) → r ∈ T → ¬ Stays a b r → (r ≡ L) ⊎ (r ≡ R)
  unfolding L R
  leaves (row i j k) m n = go (kept? (record { by = row i j k; here = m; turned = turn_0 refl }))
    where
      go : Stays a b (row i j k) ⊎ Gone a b x y i j k → (row i j k ≡ L) ⊎ (row i j k ≡ R)
      go (inl h) = absurd (n h)
      go (inr (left_0 e₀ e₁ e₂)) = inl (row_one once_T {q = x} m (turn_0 (cc)) abx.here abx.turned)
      go (inr (left_1 e₀ e₁ e₂)) = inl (row_one once_T {q = x} m (turn_1 (cc)) abx.here abx.turned)
      go (inr (left_2 e₀ e₁ e₂)) = inl (row_one once_T {q = x} m (turn_2 (cc)) abx.here abx.turned)
      go (inr (right_0 e₀ e₁ e₂)) = inr (row_one once_T {q = y} m (turn_0 (cc)) bay.here bay.turned)
      go (inr (right_1 e₀ e₁ e₂)) = inr (row_one once_T {q = y} m (turn_1 (cc)) bay.here bay.turned)
      go (inr (right_2 e₀ e₁ e₂)) = inr (row_one once_T {q = y} m (turn_2 (cc)) bay.here bay.turned)

  pub L_leaves : ¬ Stays a b L
  unfolding L abx
  L_leaves k = stays_turned a b abx.turned k (at_0 refl, at_1 refl)

  pub R_leaves : ¬ Stays a b R
  unfolding R bay
  R_leaves k = stays_turned a b bay.turned k (at_1 refl, at_0 refl)

  pub two_leave : length T ≡ 2 + length T'
  unfolding contract L R abx bay
  two_leave =
      let up = fits (distinct_rows once_T) (L ∷ R ∷ S) (λ r m. go r m (stays? a b r)) in
      let down = fits all T (λ r m. back r (Memᴰ.cases_cons m)) in
      let e = length-map (renumber a b) S in
      omega arith
    where
      S : List Row
      S = filter (stays? a b) T

      all : Distinct (L ∷ R ∷ S)
      all = more (not_two L≢R (λ m. L_leaves (filter_out (stays? a b) T m).1))
          (more (λ m. R_leaves (filter_out (stays? a b) T m).1) (distinct_filter (stays? a b) (distinct_rows once_T)))

      put : (r : Row) → (r ≡ L) ⊎ (r ≡ R) → r ∈ L ∷ R ∷ S
      put r (inl e) = Memᴰ.head e
      put r (inr e) = Memᴰ.tail (Memᴰ.head e)

      go : (r : Row) → r ∈ T → Dec (Stays a b r) → r ∈ L ∷ R ∷ S
      go r m (yes k) = Memᴰ.tail (Memᴰ.tail (filter_in (stays? a b) T m k))
      go r m (no k) = put r (leaves r m k)

      back₂ : (r : Row) → (r ≡ R) ⊎ (r ∈ S) → r ∈ T
      back₂ r (inl e) = Memᴰ.cast e bay.here
      back₂ r (inr m) = (filter_out (stays? a b) T m).0

      back : (r : Row) → (r ≡ L) ⊎ (r ∈ R ∷ S) → r ∈ T
      back r (inl e) = Memᴰ.cast e abx.here
      back r (inr m) = back₂ r (Memᴰ.cases_cons m)

  -- three neighbours of a, and a row without a, make four rows
  pub four : {p q r i j k : ℕ} → p ≢ q → p ≢ r → q ≢ r → Edge T' a p → Edge T' a q → Edge T' a r → i ≢ a → j ≢ a → k ≢ a → Follows T' i j k → 4 ≤ length T'
  four {p} {q} {r} {i} {j} {k} pq pr qr ep eq er ni nj nk g =
      fits (more (not_two (diff pq ep eq) (not_two (diff pr ep er) (alone (away ep))))
      (more (not_two (diff qr eq er) (alone (away eq))) (more (alone (away er)) (more Memᴰ.not-nil none))))
      T' (λ z m. in₀ z (Memᴰ.cases_cons m))
    where
      Rs : List Row
      Rs = ep.1.by ∷ eq.1.by ∷ er.1.by ∷ g.by ∷ []

      diff : {p q : ℕ} → p ≢ q → (e : Edge T' a p) (h : Edge T' a q) → e.1.by ≢ h.1.by
      diff n e h z = n (same_second (λ v p q t. apart' (record { by = h.1.by; here = h.1.here; turned = t })) (rw z at e.1.turned) h.1.turned)

      no_a : ¬ Holds (row i j k) a
      no_a (at_0 e) = ni (sym e)
      no_a (at_1 e) = nj (sym e)
      no_a (at_2 e) = nk (sym e)

      away : {p : ℕ} → (e : Edge T' a p) → e.1.by ≢ g.by
      away e z = no_a (holds_turned (rw (sym z) at g.turned) (turned_holds e.1.turned (at_0 refl)))

      alone : {s t : Row} → s ≢ t → ¬ (s ∈ t ∷ [])
      alone n m = n (Memᴰ.eq_of_singleton m)

      in₂ : (z : Row) → (z ≡ er.1.by) ⊎ (z ∈ g.by ∷ []) → z ∈ T'
      in₂ z (inl e) = Memᴰ.cast e er.1.here
      in₂ z (inr m) = Memᴰ.cast (Memᴰ.eq_of_singleton m) g.here

      in₁ : (z : Row) → (z ≡ eq.1.by) ⊎ (z ∈ er.1.by ∷ g.by ∷ []) → z ∈ T'
      in₁ z (inl e) = Memᴰ.cast e eq.1.here
      in₁ z (inr m) = in₂ z (Memᴰ.cases_cons m)

      in₀ : (z : Row) → (z ≡ ep.1.by) ⊎ (z ∈ eq.1.by ∷ er.1.by ∷ g.by ∷ []) → z ∈ T'
      in₀ z (inl e) = Memᴰ.cast e ep.1.here
      in₀ z (inr m) = in₁ z (Memᴰ.cases_cons m)

  -- what keeps its number
  pub same : {c : ℕ} → c ≢ b → f c ≡ c
  same n = replace_off a b n

  pub from_a : {p : ℕ} → Edge T a p → p ≢ b → Edge T' a p
  from_a {p} e n = go (edge_kept e)
    where
      go : (f a ≡ f p) ⊎ Edge T' (f a) (f p) → Edge T' a p
      go (inl k) = absurd (s.apart e.1 (sym fa ∙ k ∙ same n))
      go (inr k) = re_edge fa (same n) k

  pub from_b : {p : ℕ} → Edge T b p → p ≢ a → Edge T' a p
  from_b {p} e n = go (edge_kept e)
    where
      n₂ : p ≢ b
      n₂ k = s.apart e.1 (sym k)

      go : (f b ≡ f p) ⊎ Edge T' (f b) (f p) → Edge T' a p
      go (inl k) = absurd (n (sym (sym fb ∙ k ∙ same n₂)))
      go (inr k) = re_edge fb (same n₂) k

  pub keep_same : {v p q : ℕ} → v ≢ b → p ≢ b → q ≢ b → Follows T v p q → Follows T' v p q
  keep_same nv np nq g = re (same nv) (same np) (same nq) (keep a b g (stays_a nv np nq))

  pub least' : 4 ≤ length T'
  least' = go (ℕ_discrete w y) (ℕ_discrete u x)
    where
      w : ℕ
      w = ax.0

      u : ℕ
      u = by.0

      x≢w : x ≢ w
      x≢w = s.apart (turn ax.1)

      w≢b : w ≢ b
      w≢b e = ax.2 (at_0 refl, at_2 (sym e))

      w≢a : w ≢ a
      w≢a = s.apart (turn (turn ax.1))

      y≢u : y ≢ u
      y≢u = s.apart (turn by.1)

      u≢a : u ≢ a
      u≢a e = by.2 (at_2 (sym e), at_0 refl)

      u≢b : u ≢ b
      u≢b = s.apart (turn (turn by.1))

      wx : Edge T w x
      wx = s.both (a, turn ax.1)

      uy : Edge T u y
      uy = s.both (b, turn by.1)

      aw : Edge T a w
      aw = s.both (x, turn (turn ax.1))

      bu : Edge T b u
      bu = s.both (y, turn (turn by.1))

      only_w : w ≢ y → Edge T b w → ⊥
      only_w n e = elim (o.only aw e) [ inl k ↦ x≢w (sym k) | inr k ↦ n k ]

      only_u : u ≢ x → Edge T a u → ⊥
      only_u n e = elim (o.only e bu) [ inl k ↦ n k | inr k ↦ y≢u (sym k) ]

      x≢b : x ≢ b
      x≢b k = b≢x (sym k)

      y≢a : y ≢ a
      y≢a k = a≢y (sym k)

      go : Dec (w ≡ y) → Dec (u ≡ x) → 4 ≤ length T'
      go (no n) d =
          let t≢b : wx.0 ≢ b = λ k. only_w n (x, turn (turn (re refl refl k wx.1))) in
          let t≢a : wx.0 ≢ a = λ k. w≢b (one (turn (re refl refl k wx.1)) xab) in
          four x≢w o.two n (from_a (w, ax.1) x≢b) (from_a aw w≢b) (from_a (b, ayb) y≢b)
          w≢a x≢a t≢a (keep_same w≢b x≢b t≢b wx.1)
      go (yes e) (no n) =
          let t≢a : uy.0 ≢ a = λ k. only_u n (y, turn (turn (re refl refl k uy.1))) in
          let t≢b : uy.0 ≢ b = λ k. u≢a (one (turn (re refl refl k uy.1)) yba) in
          four y≢u (λ k. o.two (sym k)) n (from_b (u, by.1) y≢a) (from_b bu u≢a) (from_b (a, bxa) x≢a)
          u≢a y≢a t≢a (keep_same u≢b y≢b t≢b uy.1)
      go (yes e) (yes k) = absurd (o.no_edge {p = x} {q = y} (inl (re refl refl e ax.1)) (inr (re refl refl k by.1)))

  pub contracted : Stage n (contract a b T)
  contracted = record {
    least = least';
    most = let h = s.most in let e = two_leave in omega arith;
    few = s.few;
    many = s.many;
    below = below';
    apart = apart';
    once = once';
    both = both';
    ring = ring';
    joined = joined';
  }
