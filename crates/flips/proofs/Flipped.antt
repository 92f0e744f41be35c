-- A flip makes a stage of a stage: the rows (a, b, c) and (b, a, d) go, (c, a, d) and (c, d, b) come. No places here, and all four rows may be
-- turned in any way, so that undoing a flip is the same with c, d, b, a for a, b, c, d.
use mathlib.Core.Path.{◌≡◌, refl, sym, ◌∙◌}
use mathlib.Core.Logic.{◌≢◌, ◌⊎◌, inl, inr, ite}
use mathlib.Core.List.Memᴰ
use mathlib.Core.List.{List, [], ◌∷◌}
use Prim.Native.Nat.{ℕ}
use native.Mathlib.Decide.{ℕ_discrete}
use native.Mathlib.Omega.{arith}
use Rattle.surface.specs.Lists.{◌∈◌, Distinct, more, Reach, stay, step}
use Rattle.surface.specs.Rows.{Row, Turned}
use Rattle.surface.specs.Table.{Follows, Edge, Used}
use Rattle.surface.specs.Stage.{Stage}
use Rattle.surface.specs.Contract.{and?}
use Rattle.surface.proofs.Reaching.{join, one_step, carry}
use Rattle.surface.proofs.Once.{turn, turn_it, Once, once_none, once_more, distinct_of_once, row_one}
use Rattle.surface.proofs.Following.{re, re_edge, Gone, left_0, left_1, left_2, right_0, right_1, right_2, stage_once, follows_same}
use Rattle.surface.proofs.Linked.{not_same}
use Rattle.growth.proofs.Growing.{re_turned}
use Rattle.growth.proofs.Regrow.{Third, third_0, third_1, third_2, third, gone_left, gone_right}
use Rattle.flips.proofs.Places.{NewOrOld, Swapped}

-- distinct rows of which no two share a directed edge
once_from : (W : List Row) → Distinct W → ((r z : Row) (v p q w : ℕ) → r ∈ W → z ∈ W → Turned r v p q → Turned z v p w → r ≡ z) → Once W
once_from [] d h = once_none
once_from (t ∷ W) (more n d) h =
    once_more (λ v p q u e. n (Memᴰ.cast (h t e.1.by v p q e.0 (Memᴰ.head refl) (Memᴰ.tail e.1.here) u e.1.turned) e.1.here))
    (once_from W d (λ r z v p q w m k. h r z v p q w (Memᴰ.tail m) (Memᴰ.tail k)))

-- what a flip of a b does to the rows of T, their places aside
pub record Exchanged (T : List Row) (a b c d : ℕ) (W : List Row) : Type 0 where
  pub o₁ : Row
  pub o₂ : Row
  pub z₁ : Row
  pub z₂ : Row
  pub in_1 : o₁ ∈ T
  pub in_2 : o₂ ∈ T
  pub old_1 : Turned o₁ a b c
  pub old_2 : Turned o₂ b a d
  pub new_1 : Turned z₁ c a d
  pub new_2 : Turned z₂ c d b
  pub no_edge : ¬ Edge T c d
  pub swapped : Swapped T o₁ o₂ z₁ z₂ W

module _ {n : ℕ} {T : List Row} {a b c d : ℕ} {W : List Row} (s : Stage n T) (k : Exchanged T a b c d W) where
  one : {v p q q' : ℕ} → Follows T v p q → Follows T v p q' → q ≡ q'
  one f g = follows_same n T s f g

  -- the rows that go, and those that come
  abc : Follows T a b c
  abc = record { by = k.o₁; here = k.in_1; turned = k.old_1 }

  bad : Follows T b a d
  bad = record { by = k.o₂; here = k.in_2; turned = k.old_2 }

  cad : Follows W c a d
  cad = record { by = k.z₁; here = k.swapped.in_1; turned = k.new_1 }

  cdb : Follows W c d b
  cdb = record { by = k.z₂; here = k.swapped.in_2; turned = k.new_2 }

  a≢b : a ≢ b
  a≢b = s.apart abc

  b≢c : b ≢ c
  b≢c = s.apart (turn abc)

  c≢a : c ≢ a
  c≢a = s.apart (turn (turn abc))

  a≢d : a ≢ d
  a≢d = s.apart (turn bad)

  d≢b : d ≢ b
  d≢b = s.apart (turn (turn bad))

  c≢d : c ≢ d
  c≢d = not_same n T s abc bad

  -- what follows b round a is c, and what follows a round b is d
  at_ab : {v p q : ℕ} → Follows T v p q → (v ≡ a) × (p ≡ b) → Gone a b c d v p q
  at_ab f e = left_0 e.0 e.1 (one (re e.0 e.1 refl f) abc)

  at_ba : {v p q : ℕ} → Follows T v p q → (v ≡ b) × (p ≡ a) → Gone a b c d v p q
  at_ba f e = right_0 e.0 e.1 (one (re e.0 e.1 refl f) bad)

  -- what b follows round a is d, and what a follows round b is c
  to_ab : {v p q : ℕ} → Follows T v p q → (v ≡ a) × (q ≡ b) → Gone a b c d v p q
  to_ab f e = right_1 e.0 (one (turn (turn (re e.0 refl e.1 f))) bad) e.1

  to_ba : {v p q : ℕ} → Follows T v p q → (v ≡ b) × (q ≡ a) → Gone a b c d v p q
  to_ba f e = left_1 e.0 (one (turn (turn (re e.0 refl e.1 f))) abc) e.1

  -- a row with the edge a b, either way, is one that goes
  gone? : {v p q : ℕ} → Follows T v p q → Gone a b c d v p q ⊎ (¬ Gone a b c d v p q)
  gone? {v} {p} {q} f = go (and? (ℕ_discrete v a) (ℕ_discrete p b)) (and? (ℕ_discrete v b) (ℕ_discrete p a)) (and? (ℕ_discrete p a) (ℕ_discrete q b))
      (and? (ℕ_discrete p b) (ℕ_discrete q a)) (and? (ℕ_discrete v b) (ℕ_discrete q a)) (and? (ℕ_discrete v a) (ℕ_discrete q b))
    where
      none_of : ¬ ((v ≡ a) × (p ≡ b)) → ¬ ((v ≡ b) × (p ≡ a)) → ¬ ((p ≡ a) × (q ≡ b)) → ¬ ((p ≡ b) × (q ≡ a)) → ¬ ((v ≡ b) × (q ≡ a)) → ¬ ((v ≡ a) × (q ≡ b)) → ¬ Gone a b c d v p q
      none_of n₁ n₂ n₃ n₄ n₅ n₆ (left_0 ev ep eq) = n₁ (ev, ep)
      none_of n₁ n₂ n₃ n₄ n₅ n₆ (left_1 ev ep eq) = n₅ (ev, eq)
      none_of n₁ n₂ n₃ n₄ n₅ n₆ (left_2 ev ep eq) = n₃ (ep, eq)
      none_of n₁ n₂ n₃ n₄ n₅ n₆ (right_0 ev ep eq) = n₂ (ev, ep)
      none_of n₁ n₂ n₃ n₄ n₅ n₆ (right_1 ev ep eq) = n₆ (ev, eq)
      none_of n₁ n₂ n₃ n₄ n₅ n₆ (right_2 ev ep eq) = n₄ (ep, eq)

      go : Dec ((v ≡ a) × (p ≡ b)) → Dec ((v ≡ b) × (p ≡ a)) → Dec ((p ≡ a) × (q ≡ b)) → Dec ((p ≡ b) × (q ≡ a)) → Dec ((v ≡ b) × (q ≡ a)) → Dec ((v ≡ a) × (q ≡ b)) →
          Gone a b c d v p q ⊎ (¬ Gone a b c d v p q)
      go (yes e) d₂ d₃ d₄ d₅ d₆ = inl (at_ab f e)
      go (no n₁) (yes e) d₃ d₄ d₅ d₆ = inl (at_ba f e)
      go (no n₁) (no n₂) (yes e) d₄ d₅ d₆ = inl (left_2 (one (turn (re refl e.0 e.1 f)) abc) e.0 e.1)
      go (no n₁) (no n₂) (no n₃) (yes e) d₅ d₆ = inl (right_2 (one (turn (re refl e.0 e.1 f)) bad) e.0 e.1)
      go (no n₁) (no n₂) (no n₃) (no n₄) (yes e) d₆ = inl (to_ba f e)
      go (no n₁) (no n₂) (no n₃) (no n₄) (no n₅) (yes e) = inl (to_ab f e)
      go (no n₁) (no n₂) (no n₃) (no n₄) (no n₅) (no n₆) = inr (none_of n₁ n₂ n₃ n₄ n₅ n₆)

  stays_in : {v p q : ℕ} → Follows T v p q → ¬ Gone a b c d v p q → Follows W v p q
  stays_in f m = record {
    by = f.by;
    here = k.swapped.keep f.here (λ e. m (gone_left (third (rw (sym e) at k.old_1) f.turned))) (λ e. m (gone_right (third (rw (sym e) at k.old_2) f.turned)));
    turned = f.turned;
  }

  -- a row with an edge of one that goes is that one
  is_1 : {r : Row} {v p q w : ℕ} → r ∈ T → Turned r v p q → Turned k.o₁ v p w → r ≡ k.o₁
  is_1 m t u = row_one (stage_once n T s) m t k.in_1 u

  is_2 : {r : Row} {v p q w : ℕ} → r ∈ T → Turned r v p q → Turned k.o₂ v p w → r ≡ k.o₂
  is_2 m t u = row_one (stage_once n T s) m t k.in_2 u

  not_gone : {v p q : ℕ} {r : Row} → r ∈ T → Turned r v p q → r ≢ k.o₁ → r ≢ k.o₂ → ¬ Gone a b c d v p q
  not_gone m t n₁ n₂ (left_0 ev ep eq) = n₁ (is_1 m (re_turned ev ep refl t) k.old_1)
  not_gone m t n₁ n₂ (left_1 ev ep eq) = n₁ (is_1 m (re_turned ev ep refl t) (turn_it k.old_1))
  not_gone m t n₁ n₂ (left_2 ev ep eq) = n₁ (is_1 m (re_turned ev ep refl t) (turn_it (turn_it k.old_1)))
  not_gone m t n₁ n₂ (right_0 ev ep eq) = n₂ (is_2 m (re_turned ev ep refl t) k.old_2)
  not_gone m t n₁ n₂ (right_1 ev ep eq) = n₂ (is_2 m (re_turned ev ep refl t) (turn_it k.old_2))
  not_gone m t n₁ n₂ (right_2 ev ep eq) = n₂ (is_2 m (re_turned ev ep refl t) (turn_it (turn_it k.old_2)))

  -- where a row of W comes from: the rows that come hold c and d, as those that go hold a and b
  data Was (v p q : ℕ) : Type 0 where
    old : Follows T v p q → ¬ Gone a b c d v p q → Was v p q
    new : Gone c d b a v p q → Was v p q

  came_1 : {v p q : ℕ} → Turned k.z₁ v p q → Third d c a v p q
  came_1 t = third (turn_it (turn_it k.new_1)) t

  came_2 : {v p q : ℕ} → Turned k.z₂ v p q → Third c d b v p q
  came_2 t = third k.new_2 t

  was : {v p q : ℕ} → Follows W v p q → Was v p q
  was {v} {p} {q} f = go (k.swapped.out f.here)
    where
      go : NewOrOld T k.o₁ k.o₂ k.z₁ k.z₂ f.by → Was v p q
      go (inl e) = new (gone_right (came_1 (rw e at f.turned)))
      go (inr (inl e)) = new (gone_left (came_2 (rw e at f.turned)))
      go (inr (inr m)) = old (record { by = f.by; here = m.0; turned = f.turned }) (not_gone m.0 f.turned m.1 m.2)

  -- a row that stays shares no directed edge with one that comes
  alone : {r : Row} {v p q w : ℕ} → (r ∈ T) × (r ≢ k.o₁) × (r ≢ k.o₂) → Turned r v p q → Gone c d b a v p w → ⊥
  alone {r} {q = q} m t (left_0 i j l) = k.no_edge (q, record { by = r; here = m.0; turned = re_turned i j refl t })
  alone m t (left_1 i j l) = m.2 (is_2 m.0 (re_turned i j refl t) (turn_it (turn_it k.old_2)))
  alone m t (left_2 i j l) = m.1 (is_1 m.0 (re_turned i j refl t) (turn_it k.old_1))
  alone {r} {q = q} m t (right_0 i j l) = k.no_edge (s.both (q, record { by = r; here = m.0; turned = re_turned i j refl t }))
  alone m t (right_1 i j l) = m.1 (is_1 m.0 (re_turned i j refl t) (turn_it (turn_it k.old_1)))
  alone m t (right_2 i j l) = m.2 (is_2 m.0 (re_turned i j refl t) (turn_it k.old_2))

  -- nor do the two that come
  unlike : {v p q w : ℕ} → Third d c a v p q → Third c d b v p w → ⊥
  unlike (third_0 e f g) (third_0 i j l) = c≢d (sym f ∙ j)
  unlike (third_0 e f g) (third_1 i j l) = b≢c (sym j ∙ f)
  unlike (third_0 e f g) (third_2 i j l) = d≢b (sym e ∙ i)
  unlike (third_1 e f g) (third_0 i j l) = a≢d (sym f ∙ j)
  unlike (third_1 e f g) (third_1 i j l) = c≢d (sym e ∙ i)
  unlike (third_1 e f g) (third_2 i j l) = b≢c (sym i ∙ e)
  unlike (third_2 e f g) (third_0 i j l) = c≢a (sym i ∙ e)
  unlike (third_2 e f g) (third_1 i j l) = a≢d (sym e ∙ i)
  unlike (third_2 e f g) (third_2 i j l) = a≢b (sym e ∙ i)

  -- each directed edge occurs once
  once_W : Once W
  once_W = once_from W k.swapped.distinct (λ r z v p q w m l t u. go t u (k.swapped.out m) (k.swapped.out l))
    where
      go : {r z : Row} {v p q w : ℕ} → Turned r v p q → Turned z v p w → NewOrOld T k.o₁ k.o₂ k.z₁ k.z₂ r → NewOrOld T k.o₁ k.o₂ k.z₁ k.z₂ z → r ≡ z
      go t u (inl e) (inl f) = e ∙ sym f
      go t u (inl e) (inr (inl f)) = absurd (unlike (came_1 (rw e at t)) (came_2 (rw f at u)))
      go t u (inl e) (inr (inr f)) = absurd (alone f u (gone_right (came_1 (rw e at t))))
      go t u (inr (inl e)) (inl f) = absurd (unlike (came_1 (rw f at u)) (came_2 (rw e at t)))
      go t u (inr (inl e)) (inr (inl f)) = e ∙ sym f
      go t u (inr (inl e)) (inr (inr f)) = absurd (alone f u (gone_left (came_2 (rw e at t))))
      go t u (inr (inr e)) (inl f) = absurd (alone e t (gone_right (came_1 (rw f at u))))
      go t u (inr (inr e)) (inr (inl f)) = absurd (alone e t (gone_left (came_2 (rw f at u))))
      go t u (inr (inr e)) (inr (inr f)) = row_one (stage_once n T s) e.0 t f.0 u

  -- an edge is kept, or is a b or b a
  data Kept (p q : ℕ) : Type 0 where
    is_ab : p ≡ a → q ≡ b → Kept p q
    is_ba : p ≡ b → q ≡ a → Kept p q
    kept : Edge W p q → Kept p q

  keeps : {p q : ℕ} → Edge T p q → Kept p q
  keeps {p} {q} e = go (gone? e.1)
    where
      go : Gone a b c d p q e.0 ⊎ (¬ Gone a b c d p q e.0) → Kept p q
      go (inr m) = kept (e.0, stays_in e.1 m)
      go (inl (left_0 i j l)) = is_ab i j
      go (inl (left_1 i j l)) = kept (d, re (sym i) (sym j) refl (turn (turn cdb)))
      go (inl (left_2 i j l)) = kept (d, re (sym i) (sym j) refl cad)
      go (inl (right_0 i j l)) = is_ba i j
      go (inl (right_1 i j l)) = kept (c, re (sym i) (sym j) refl (turn cad))
      go (inl (right_2 i j l)) = kept (c, re (sym i) (sym j) refl (turn cdb))

  other : {p q : ℕ} → Edge T p q → ¬ ((p ≡ a) × (q ≡ b)) → ¬ ((p ≡ b) × (q ≡ a)) → Edge W p q
  other {p} {q} e n₁ n₂ = go (keeps e)
    where
      go : Kept p q → Edge W p q
      go (is_ab i j) = absurd (n₁ (i, j))
      go (is_ba i j) = absurd (n₂ (i, j))
      go (kept f) = f

  ac : Edge W a c
  ac = other (s.both (b, turn (turn abc))) (λ e. b≢c (sym e.1)) (λ e. a≢b e.0)

  cb : Edge W c b
  cb = other (s.both (a, turn abc)) (λ e. c≢a e.0) (λ e. b≢c (sym e.0))

  da : Edge W d a
  da = other (s.both (b, turn bad)) (λ e. a≢d (sym e.0)) (λ e. d≢b e.0)

  bd : Edge W b d
  bd = other (s.both (a, turn (turn bad))) (λ e. a≢b (sym e.0)) (λ e. a≢d (sym e.1))

  both_W : {p q : ℕ} → Edge W p q → Edge W q p
  both_W {p} {q} e = go (was e.1)
    where
      go : Was p q e.0 → Edge W q p
      go (old f m) = other (s.both (e.0, f)) (λ i. m (at_ba f (i.1, i.0))) (λ i. m (at_ab f (i.1, i.0)))
      go (new (left_0 i j l)) = re_edge (sym j) (sym i) (a, turn (turn cad))
      go (new (left_1 i j l)) = re_edge (sym j) (sym i) bd
      go (new (left_2 i j l)) = re_edge (sym j) (sym i) cb
      go (new (right_0 i j l)) = re_edge (sym j) (sym i) (b, cdb)
      go (new (right_1 i j l)) = re_edge (sym j) (sym i) ac
      go (new (right_2 i j l)) = re_edge (sym j) (sym i) da

  -- the flipped edge is gone
  pub no_ab : ¬ Edge W a b
  no_ab e = go (was e.1)
    where
      go : Was a b e.0 → ⊥
      go (old f m) = m (at_ab f (refl, refl))
      go (new (left_0 i j l)) = c≢a (sym i)
      go (new (left_1 i j l)) = a≢d i
      go (new (left_2 i j l)) = a≢b i
      go (new (right_0 i j l)) = a≢d i
      go (new (right_1 i j l)) = c≢a (sym i)
      go (new (right_2 i j l)) = d≢b (sym j)

  apart_W : {v p q : ℕ} → Follows W v p q → v ≢ p
  apart_W {v} {p} {q} f e = go (was f)
    where
      go : Was v p q → ⊥
      go (old g m) = s.apart g e
      go (new (left_0 i j l)) = c≢d (sym i ∙ e ∙ j)
      go (new (left_1 i j l)) = d≢b (sym i ∙ e ∙ j)
      go (new (left_2 i j l)) = b≢c (sym i ∙ e ∙ j)
      go (new (right_0 i j l)) = c≢d (sym j ∙ sym e ∙ i)
      go (new (right_1 i j l)) = c≢a (sym i ∙ e ∙ j)
      go (new (right_2 i j l)) = a≢d (sym i ∙ e ∙ j)

  -- the same corners are used
  pub used_old : {v : ℕ} → Used W v → Used T v
  used_old {v} u = go (was u.1.1)
    where
      at_c : v ≡ c → Used T v
      at_c i = rw i (a, (b, turn (turn abc)))

      at_d : v ≡ d → Used T v
      at_d i = rw i (b, (a, turn (turn bad)))

      go : Was v u.0 u.1.0 → Used T v
      go (old f m) = (u.0, (u.1.0, f))
      go (new (left_0 i j l)) = at_c i
      go (new (left_1 i j l)) = at_d i
      go (new (left_2 i j l)) = rw i (a, (d, bad))
      go (new (right_0 i j l)) = at_d i
      go (new (right_1 i j l)) = at_c i
      go (new (right_2 i j l)) = rw i (b, (c, abc))

  pub used_new : {v : ℕ} → Used T v → Used W v
  used_new {v} u = go (keeps u.1)
    where
      go : Kept v u.0 → Used W v
      go (is_ab i j) = rw i (c, ac)
      go (is_ba i j) = rw i (d, bd)
      go (kept e) = (u.0, e)

  -- who stands for the neighbour i of v: round a, c for b; round b, d for a; else i itself
  for : ℕ → ℕ → ℕ
  for v i = ite {C = ℕ} (and? (ℕ_discrete v a) (ℕ_discrete i b)) c (ite {C = ℕ} (and? (ℕ_discrete v b) (ℕ_discrete i a)) d i)

  for_ab : {v i : ℕ} → v ≡ a → i ≡ b → for v i ≡ c
  unfolding for
  for_ab {v} {i} e g = go (and? (ℕ_discrete v a) (ℕ_discrete i b))
    where
      go : (t : Dec ((v ≡ a) × (i ≡ b))) → ite {C = ℕ} t c (ite {C = ℕ} (and? (ℕ_discrete v b) (ℕ_discrete i a)) d i) ≡ c
      go (yes h) = refl
      go (no h) = absurd (h (e, g))

  for_ba : {v i : ℕ} → v ≡ b → i ≡ a → for v i ≡ d
  unfolding for
  for_ba {v} {i} e g = go (and? (ℕ_discrete v a) (ℕ_discrete i b)) (and? (ℕ_discrete v b) (ℕ_discrete i a))
    where
      go : (t : Dec ((v ≡ a) × (i ≡ b))) (u : Dec ((v ≡ b) × (i ≡ a))) → ite {C = ℕ} t c (ite {C = ℕ} u d i) ≡ d
      go (yes h) u = absurd (a≢b (sym h.0 ∙ e))
      go (no h) (yes l) = refl
      go (no h) (no l) = absurd (l (e, g))

  for_off : {v i : ℕ} → ¬ ((v ≡ a) × (i ≡ b)) → ¬ ((v ≡ b) × (i ≡ a)) → for v i ≡ i
  unfolding for
  for_off {v} {i} n₁ n₂ = go (and? (ℕ_discrete v a) (ℕ_discrete i b)) (and? (ℕ_discrete v b) (ℕ_discrete i a))
    where
      go : (t : Dec ((v ≡ a) × (i ≡ b))) (u : Dec ((v ≡ b) × (i ≡ a))) → ite {C = ℕ} t c (ite {C = ℕ} u d i) ≡ i
      go (yes h) u = absurd (n₁ h)
      go (no h) (yes l) = absurd (n₂ l)
      go (no h) (no l) = refl

  -- round c and d each neighbour stands for itself, and c and d do so round any corner
  round_c : {v i : ℕ} → v ≡ c → for v i ≡ i
  round_c e = for_off (λ h. c≢a (sym e ∙ h.0)) (λ h. b≢c (sym h.0 ∙ e))

  round_d : {v i : ℕ} → v ≡ d → for v i ≡ i
  round_d e = for_off (λ h. a≢d (sym h.0 ∙ e)) (λ h. d≢b (sym e ∙ h.0))

  for_c : (v : ℕ) {i : ℕ} → i ≡ c → for v i ≡ c
  for_c v e = for_off (λ h. b≢c (sym h.1 ∙ e)) (λ h. c≢a (sym e ∙ h.1)) ∙ e

  for_d : (v : ℕ) {i : ℕ} → i ≡ d → for v i ≡ d
  for_d v e = for_off (λ h. d≢b (sym e ∙ h.1)) (λ h. a≢d (sym h.1 ∙ e)) ∙ e

  -- a row that stays is a step, and each row that goes is none, one or two
  round_step : (v i j : ℕ) → Follows T v i j → Reach (Follows W v) (for v i) (for v j)
  round_step v i j g = go (gone? g)
    where
      go : Gone a b c d v i j ⊎ (¬ Gone a b c d v i j) → Reach (Follows W v) (for v i) (for v j)
      go (inr m) =
          let ei = for_off (λ e. m (at_ab g e)) (λ e. m (at_ba g e)) in
          let ej = for_off (λ e. m (to_ab g e)) (λ e. m (to_ba g e)) in
          one_step (re refl (sym ei) (sym ej) (stays_in g m))
      go (inl (left_0 ev ei ej)) = stay (for_ab ev ei ∙ sym (for_c v ej))
      go (inl (left_1 ev ei ej)) = one_step (re (sym ev) (sym (for_c v ei)) (sym (for_ba ev ej)) (turn (turn cdb)))
      go (inl (left_2 ev ei ej)) = step (re (sym ev) (sym (round_c ev ∙ ei)) refl cad) (one_step (re (sym ev) refl (sym (round_c ev ∙ ej)) cdb))
      go (inl (right_0 ev ei ej)) = stay (for_ba ev ei ∙ sym (for_d v ej))
      go (inl (right_1 ev ei ej)) = one_step (re (sym ev) (sym (for_d v ei)) (sym (for_ab ev ej)) (turn cad))
      go (inl (right_2 ev ei ej)) = step (re (sym ev) (sym (round_d ev ∙ ei)) refl (turn cdb)) (one_step (re (sym ev) refl (sym (round_d ev ∙ ej)) (turn (turn cad))))

  -- the neighbours of v in W: old ones, and c and d of each other
  data Near (v p : ℕ) : Type 0 where
    same : Edge T v p → for v p ≡ p → Near v p
    d_at_c : v ≡ c → p ≡ d → Near v p
    c_at_d : v ≡ d → p ≡ c → Near v p

  near : {v p : ℕ} → Edge W v p → Near v p
  near {v} {p} e = go (was e.1)
    where
      go : Was v p e.0 → Near v p
      go (old g m) = same (e.0, g) (for_off (λ i. m (at_ab g i)) (λ i. m (at_ba g i)))
      go (new (left_0 i j l)) = d_at_c i j
      go (new (left_1 i j l)) = same (a, re (sym i) (sym j) refl (turn (turn bad))) (round_d i)
      go (new (left_2 i j l)) = same (a, re (sym i) (sym j) refl (turn abc)) (for_c v j ∙ sym j)
      go (new (right_0 i j l)) = c_at_d i j
      go (new (right_1 i j l)) = same (b, re (sym i) (sym j) refl (turn (turn abc))) (round_c i)
      go (new (right_2 i j l)) = same (b, re (sym i) (sym j) refl (turn bad)) (for_d v j ∙ sym j)

  -- on from a neighbour to an old one, and back
  exit : {v p : ℕ} → Near v p → (q : ℕ) × Edge T v q × Reach (Follows W v) p (for v q)
  exit {v} {p} (same e i) = (p, e, stay (sym i))
  exit {v} {p} (d_at_c i j) = (b, re_edge (sym i) refl (s.both (a, turn abc)), one_step (re (sym i) (sym j) (sym (round_c i)) cdb))
  exit {v} {p} (c_at_d i j) = (a, re_edge (sym i) refl (s.both (b, turn bad)), one_step (re (sym i) (sym j) (sym (round_d i)) (turn (turn cad))))

  entry : {v p : ℕ} → Near v p → (q : ℕ) × Edge T v q × Reach (Follows W v) (for v q) p
  entry {v} {p} (same e i) = (p, e, stay i)
  entry {v} {p} (d_at_c i j) = (a, re_edge (sym i) refl (b, turn (turn abc)), one_step (re (sym i) (sym (round_c i)) (sym j) cad))
  entry {v} {p} (c_at_d i j) = (b, re_edge (sym i) refl (a, turn (turn bad)), one_step (re (sym i) (sym (round_d i)) (sym j) (turn cdb)))

  ring_W : {v p q : ℕ} → Edge W v p → Edge W v q → Reach (Follows W v) p q
  ring_W {v} e g = let x = exit (near e) in let y = entry (near g) in join x.2 (join (carry (for v) (round_step v) (s.ring x.1 y.1)) y.2)

  joined_W : {p q : ℕ} → Used W p → Used W q → Reach (Edge W) p q
  joined_W u w = carry (λ i. i) (λ i j e. go i j (keeps e)) (s.joined (used_old u) (used_old w))
    where
      go : (i j : ℕ) → Kept i j → Reach (Edge W) i j
      go i j (is_ab p q) = step (re_edge (sym p) refl ac) (one_step (re_edge refl (sym q) cb))
      go i j (is_ba p q) = step (re_edge (sym p) refl bd) (one_step (re_edge refl (sym q) da))
      go i j (kept e) = one_step e

  pub exchanged_stage : Stage n W
  exchanged_stage = record {
    least = let h = s.least in let e = k.swapped.size in omega arith;
    most = let h = s.most in let e = k.swapped.size in omega arith;
    few = s.few;
    many = s.many;
    below = λ g. let u = used_old (_, (_, g)) in s.below u.1.1;
    apart = apart_W;
    once = distinct_of_once W once_W (λ v p q g. apart_W g);
    both = both_W;
    ring = ring_W;
    joined = joined_W;
  }
