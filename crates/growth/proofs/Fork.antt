-- A corner h becomes two, a and b: b has the arc from y to x, a the other, and two rows close the gap. A stage stays a stage.
use mathlib.Core.Path.{◌≡◌, refl, sym, ◌∙◌, ap}
use mathlib.Core.Logic.{◌≢◌, ◌⊎◌, inl, inr}
use mathlib.Core.List.{List}
use Prim.Native.Nat.{ℕ, ◌≤◌, ◌<◌, ◌+◌}
use native.Mathlib.Decide.{ℕ_discrete}
use native.Mathlib.Omega.{arith}
use mathlib.Core.Bool.{Bool, true, false}
use lib.Dec.{T as So}
use lib.ListN.{length}
use Rattle.surface.specs.Limits.{most_rows}
use Rattle.surface.specs.Lists.{◌∈◌, Reach, stay, step}
use Rattle.surface.specs.Rows.{Row}
use Rattle.surface.specs.Table.{◌⇒◌, Follows, Edge, Used, edges}
use Rattle.surface.specs.Stage.{Stage}
use Rattle.surface.specs.Link.{Link, Opposite}
use Rattle.surface.specs.Contract.{replace}
use Rattle.surface.proofs.Reaching.{join, one_step, carry, go_back}
use Rattle.surface.proofs.Once.{turn, Once, edge_in, in_edge, distinct_of_once}
use Rattle.surface.proofs.Renumber.{replace_at, replace_off}
use Rattle.surface.proofs.Following.{re, re_edge, Gone, left_0, left_1, left_2, right_0, right_1, right_2, follows_same as one}
use Rattle.surface.proofs.Cycle.{ring_from}
use Rattle.surface.proofs.Testing.{among, among_sound, among_whole, arrow_eq, arrow_sound, arrow_whole}
use Rattle.surface.proofs.Linked.{not_same}
use Rattle.growth.proofs.Arcs.{Arc, first, next, arc_short, re_arc, arc_edge, split, not_both, ends_at, cross}

-- where a row of the new table comes from
pub data Was (T : List Row) (h a b x y v p q : ℕ) : Type 0 where
  plain : Follows T v p q → v ≢ h → p ≢ h → q ≢ h → Was T h a b x y v p q
  a_0 : v ≡ a → Follows T h p q → Arc T h y x p → Was T h a b x y v p q
  a_1 : p ≡ a → Follows T h q v → Arc T h y x q → Was T h a b x y v p q
  a_2 : q ≡ a → Follows T h v p → Arc T h y x v → Was T h a b x y v p q
  b_0 : v ≡ b → Follows T h p q → Arc T h x y p → Was T h a b x y v p q
  b_1 : p ≡ b → Follows T h q v → Arc T h x y q → Was T h a b x y v p q
  b_2 : q ≡ b → Follows T h v p → Arc T h x y v → Was T h a b x y v p q
  new : Gone a b x y v p q → Was T h a b x y v p q

pub record Forked (T' : List Row) (h a b x y : ℕ) (T : List Row) : Type 0 where
  pub was : {v p q : ℕ} → Follows T v p q → Was T' h a b x y v p q
  pub plain_in : {v p q : ℕ} → Follows T' v p q → v ≢ h → p ≢ h → q ≢ h → Follows T v p q
  pub a_in : {p q : ℕ} → Follows T' h p q → Arc T' h y x p → Follows T a p q
  pub b_in : {p q : ℕ} → Follows T' h p q → Arc T' h x y p → Follows T b p q
  pub left : Follows T a b x
  pub right : Follows T b a y

pub record Hub (n : ℕ) (T : List Row) (h a b x y : ℕ) : Type 0 where
  pub stage : Stage n T
  pub at_x : Edge T h x
  pub at_y : Edge T h y
  pub two : x ≢ y
  pub a≢b : a ≢ b
  pub off_a : {v : ℕ} → Used T v → v ≢ h → v ≢ a
  pub off_b : {v : ℕ} → Used T v → v ≢ h → v ≢ b
  pub a<n : a < n
  pub b<n : b < n

-- the two sides change places
pub swap_hub : {n : ℕ} {T : List Row} {h a b x y : ℕ} → Hub n T h a b x y → Hub n T h b a y x
swap_hub u = record {
  stage = u.stage;
  at_x = u.at_y;
  at_y = u.at_x;
  two = λ e. u.two (sym e);
  a≢b = λ e. u.a≢b (sym e);
  off_a = λ k nh. u.off_b k nh;
  off_b = λ k nh. u.off_a k nh;
  a<n = u.b<n;
  b<n = u.a<n;
}

swap_was : {T : List Row} {h a b x y v p q : ℕ} → Was T h a b x y v p q → Was T h b a y x v p q
swap_was (plain f nv np nq) = plain f nv np nq
swap_was (a_0 e f k) = b_0 e f k
swap_was (a_1 e f k) = b_1 e f k
swap_was (a_2 e f k) = b_2 e f k
swap_was (b_0 e f k) = a_0 e f k
swap_was (b_1 e f k) = a_1 e f k
swap_was (b_2 e f k) = a_2 e f k
swap_was (new (left_0 ev ep eq)) = new (right_0 ev ep eq)
swap_was (new (left_1 ev ep eq)) = new (right_1 ev ep eq)
swap_was (new (left_2 ev ep eq)) = new (right_2 ev ep eq)
swap_was (new (right_0 ev ep eq)) = new (left_0 ev ep eq)
swap_was (new (right_1 ev ep eq)) = new (left_1 ev ep eq)
swap_was (new (right_2 ev ep eq)) = new (left_2 ev ep eq)

pub swap_fork : {T' T : List Row} {h a b x y : ℕ} → Forked T' h a b x y T → Forked T' h b a y x T
swap_fork k = record {
  was = λ f. swap_was (k.was f);
  plain_in = λ f nv np nq. k.plain_in f nv np nq;
  a_in = λ f l. k.b_in f l;
  b_in = λ f l. k.a_in f l;
  left = k.right;
  right = k.left;
}

-- what follows what round a
pub data RoundA (T : List Row) (h b x y p q : ℕ) : Type 0 where
  old : Follows T h p q → Arc T h y x p → RoundA T h b x y p q
  from_b : p ≡ b → q ≡ x → RoundA T h b x y p q
  to_b : p ≡ y → q ≡ b → RoundA T h b x y p q

module _ (n : ℕ) (T' : List Row) (h a b x y : ℕ) (u : Hub n T' h a b x y) (T : List Row) (k : Forked T' h a b x y T) where
  s : Stage n T'
  s = u.stage

  pub near_h : {p : ℕ} → Edge T' h p → p ≢ h
  near_h e l = s.apart e.1 (sym l)

  pub near_used : {p : ℕ} → Edge T' h p → Used T' p
  near_used e = (h, s.both e)

  pub near_a : {p : ℕ} → Edge T' h p → p ≢ a
  near_a e = u.off_a (near_used e) (near_h e)

  pub near_b : {p : ℕ} → Edge T' h p → p ≢ b
  near_b e = u.off_b (near_used e) (near_h e)

  -- the end of a step round h
  pub to : {p q : ℕ} → Follows T' h p q → Edge T' h q
  to {p} f = s.both (p, turn (turn f))

  pub on_b : {p : ℕ} → Arc T' h x y p → Edge T' h p
  on_b l = arc_edge n T' s h x y u.at_x u.at_y u.two l

  pub on_a : {p : ℕ} → Arc T' h y x p → Edge T' h p
  on_a l = arc_edge n T' s h y x u.at_y u.at_x (λ e. u.two (sym e)) l

  pub parted : {p : ℕ} → Edge T' h p → Arc T' h x y p ⊎ Arc T' h y x p
  parted e = split n T' s h x y u.at_x u.at_y u.two e

  pub never : {p : ℕ} → Arc T' h x y p → Arc T' h y x p → ⊥
  never l m = not_both n T' s h x y u.at_x u.at_y u.two l m

  pub x_on : Arc T' h y x x
  x_on = first refl u.two

  pub round_a : {p q : ℕ} → Follows T a p q → RoundA T' h b x y p q
  round_a {p} {q} f = go (k.was f)
    where
      go : Was T' h a b x y a p q → RoundA T' h b x y p q
      go (plain g nv np nq) = absurd (u.off_a (p, (q, g)) nv refl)
      go (a_0 e g l) = old g l
      go (a_1 e g l) = absurd (near_a (to g) refl)
      go (a_2 e g l) = absurd (near_a (p, g) refl)
      go (b_0 e g l) = absurd (u.a≢b e)
      go (b_1 e g l) = absurd (near_a (to g) refl)
      go (b_2 e g l) = absurd (near_a (p, g) refl)
      go (new (left_0 ev ep eq)) = from_b ep eq
      go (new (left_1 ev ep eq)) = absurd (u.a≢b ev)
      go (new (left_2 ev ep eq)) = absurd (near_a u.at_x (sym ev))
      go (new (right_0 ev ep eq)) = absurd (u.a≢b ev)
      go (new (right_1 ev ep eq)) = to_b ep eq
      go (new (right_2 ev ep eq)) = absurd (near_a u.at_y (sym ev))

  -- the edges at a
  pub a_to : {p : ℕ} → Arc T' h y x p → Edge T a p
  a_to l = let e = on_a l in (e.0, k.a_in e.1 l)

  pub before_y : {p : ℕ} → Follows T' h p y → Arc T' h y x p
  before_y f = ends_at n T' s h y x u.at_y u.at_x (λ e. u.two (sym e)) f

  pub to_a : {p : ℕ} → Arc T' h y x p → Edge T p a
  to_a {p} l = go (parted (p, turn w.1))
    where
      w : Edge T' p h
      w = s.both (on_a l)

      go : Arc T' h x y w.0 ⊎ Arc T' h y x w.0 → Edge T p a
      go (inl m) = let e = cross n T' s h x y u.at_x u.at_y u.two m (turn w.1) l in (b, re (sym e) refl refl (turn (turn k.left)))
      go (inr m) = (w.0, turn (turn (k.a_in (turn w.1) m)))

  pub y_a : Edge T y a
  y_a = let w = s.both u.at_y in (w.0, turn (turn (k.a_in (turn w.1) (before_y (turn w.1)))))

  -- a neighbour of h that one on a's arc comes before
  pub a_on : {p q : ℕ} → Follows T' h p q → Arc T' h y x p → Edge T a q
  a_on {p} {q} f l = go (parted (to f))
    where
      go : Arc T' h x y q ⊎ Arc T' h y x q → Edge T a q
      go (inl m) = (b, re refl (sym (cross n T' s h y x u.at_y u.at_x (λ e. u.two (sym e)) l f m)) refl (turn k.right))
      go (inr m) = a_to m

  -- from b all round a
  arc_reach : {q : ℕ} → Arc T' h y x q → Reach (Follows T a) b q
  arc_reach (first e m) = one_step (re refl refl (sym e) k.left)
  arc_reach (next l f m) = join (arc_reach l) (one_step (k.a_in f l))

  pub all_a : (q : ℕ) → Edge T a q → Reach (Follows T a) b q
  all_a q e = go (round_a e.1)
    where
      w : Edge T' y h
      w = s.both u.at_y

      go : RoundA T' h b x y q e.0 → Reach (Follows T a) b q
      go (old g l) = arc_reach l
      go (from_b ep eq) = stay (sym ep)
      go (to_b ep eq) = let f = turn w.1 in let l = before_y f in join (arc_reach l) (one_step (re refl refl (sym ep) (k.a_in f l)))

-- the name that a neighbour of h sees
name : {A B : Type 0} → ℕ → ℕ → A ⊎ B → ℕ
name a b (inl l) = b
name a b (inr l) = a

pub edge? : (T : List Row) (p q : ℕ) → Dec (Edge T p q)
edge? T p q = go (among arrow_eq (p ⇒ q) (edges T)) (λ m. among_sound arrow_eq arrow_sound arrow_whole (edges T) m) (λ m. among_whole arrow_eq arrow_sound arrow_whole (edges T) m)
  where
    go : (t : Bool) → (So t → (p ⇒ q) ∈ edges T) → ((p ⇒ q) ∈ edges T → So t) → Dec (Edge T p q)
    go true f g = yes (in_edge T (f tt))
    go false f g = no (λ e. g (edge_in e))

module _ (n : ℕ) (T' : List Row) (h a b x y : ℕ) (u : Hub n T' h a b x y) (T : List Row) (k : Forked T' h a b x y T) where
  abbrev S : Stage n T'
  S = u.stage

  abbrev u₂ : Hub n T' h b a y x
  u₂ = swap_hub u

  abbrev k₂ : Forked T' h b a y x T
  k₂ = swap_fork k

  abbrev A : ℕ → Type 0
  A p = Arc T' h y x p

  abbrev B : ℕ → Type 0
  B p = Arc T' h x y p

  h_to : {p q : ℕ} → Follows T' h p q → Edge T' h q
  h_to f = to n T' h a b x y u T k f

  off_h : {p : ℕ} → Edge T' h p → p ≢ h
  off_h e = near_h n T' h a b x y u T k e

  no_a : {p : ℕ} → Edge T' h p → p ≢ a
  no_a e = near_a n T' h a b x y u T k e

  no_b : {p : ℕ} → Edge T' h p → p ≢ b
  no_b e = near_b n T' h a b x y u T k e

  sides : {p : ℕ} → Edge T' h p → B p ⊎ A p
  sides e = parted n T' h a b x y u T k e

  clear : {p : ℕ} → B p → A p → ⊥
  clear l m = never n T' h a b x y u T k l m

  pub apart_T : {v p q : ℕ} → Follows T v p q → v ≢ p
  apart_T {v} {p} {q} f e = go (k.was f)
    where
      go : Was T' h a b x y v p q → ⊥
      go (plain g nv np nq) = S.apart g e
      go (a_0 i g l) = no_a (q, g) (sym e ∙ i)
      go (a_1 i g l) = no_a (h_to g) (e ∙ i)
      go (a_2 i g l) = S.apart (turn g) e
      go (b_0 i g l) = no_b (q, g) (sym e ∙ i)
      go (b_1 i g l) = no_b (h_to g) (e ∙ i)
      go (b_2 i g l) = S.apart (turn g) e
      go (new (left_0 ev ep eq)) = u.a≢b (sym ev ∙ e ∙ ep)
      go (new (left_1 ev ep eq)) = no_b u.at_x (sym ep ∙ sym e ∙ ev)
      go (new (left_2 ev ep eq)) = no_a u.at_x (sym ev ∙ e ∙ ep)
      go (new (right_0 ev ep eq)) = u.a≢b (sym ep ∙ sym e ∙ ev)
      go (new (right_1 ev ep eq)) = no_a u.at_y (sym ep ∙ sym e ∙ ev)
      go (new (right_2 ev ep eq)) = no_b u.at_y (sym ev ∙ e ∙ ep)

  -- who is used
  pub data Who (v : ℕ) : Type 0 where
    is_a : v ≡ a → Who v
    is_b : v ≡ b → Who v
    other : Used T' v → v ≢ h → Who v

  pub who : {v p q : ℕ} → Follows T v p q → Who v
  who {v} {p} {q} f = go (k.was f)
    where
      near : Edge T' h v → Who v
      near e = other (h, S.both e) (off_h e)

      go : Was T' h a b x y v p q → Who v
      go (plain g nv np nq) = other (p, (q, g)) nv
      go (a_0 i g l) = is_a i
      go (a_1 i g l) = near (h_to g)
      go (a_2 i g l) = near (p, g)
      go (b_0 i g l) = is_b i
      go (b_1 i g l) = near (h_to g)
      go (b_2 i g l) = near (p, g)
      go (new (left_0 ev ep eq)) = is_a ev
      go (new (left_1 ev ep eq)) = is_b ev
      go (new (left_2 ev ep eq)) = near (re_edge refl (sym ev) u.at_x)
      go (new (right_0 ev ep eq)) = is_b ev
      go (new (right_1 ev ep eq)) = is_a ev
      go (new (right_2 ev ep eq)) = near (re_edge refl (sym ev) u.at_y)

  pub below_T : {v p q : ℕ} → Follows T v p q → v < n
  below_T {v} f = go (who f)
    where
      go : Who v → v < n
      go (is_a e) = rw e u.a<n
      go (is_b e) = rw e u.b<n
      go (other w nv) = S.below w.1.1

  -- an edge without h is kept
  kept : {p q : ℕ} → Edge T' p q → p ≢ h → q ≢ h → Edge T p q
  kept {p} {q} e np nq = go (ℕ_discrete e.0 h)
    where
      hp : e.0 ≡ h → Follows T' h p q
      hp i = re i refl refl (turn (turn e.1))

      side : e.0 ≡ h → B p ⊎ A p → Edge T p q
      side i (inl l) = (b, turn (k.b_in (hp i) l))
      side i (inr l) = (a, turn (k.a_in (hp i) l))

      go : Dec (e.0 ≡ h) → Edge T p q
      go (yes i) = side i (sides (q, hp i))
      go (no m) = (e.0, k.plain_in e.1 np nq m)

  pub both_T : {p q : ℕ} → Edge T p q → Edge T q p
  both_T {p} {q} e = go (k.was e.1)
    where
      go : Was T' h a b x y p q e.0 → Edge T q p
      go (plain g nv np nq) = kept (S.both (e.0, g)) np nv
      go (a_0 i g l) = re_edge refl (sym i) (to_a n T' h a b x y u T k l)
      go (a_1 i g l) = re_edge (sym i) refl (a_on n T' h a b x y u T k g l)
      go (a_2 i g l) = kept (S.both (h, turn g)) (off_h (h_to g)) (off_h (q, g))
      go (b_0 i g l) = re_edge refl (sym i) (to_a n T' h b a y x u₂ T k₂ l)
      go (b_1 i g l) = re_edge (sym i) refl (a_on n T' h b a y x u₂ T k₂ g l)
      go (b_2 i g l) = kept (S.both (h, turn g)) (off_h (h_to g)) (off_h (q, g))
      go (new (left_0 ev ep eq)) = re_edge (sym ep) (sym ev) (y, k.right)
      go (new (left_1 ev ep eq)) = re_edge (sym ep) (sym ev) (y_a n T' h b a y x u₂ T k₂)
      go (new (left_2 ev ep eq)) = re_edge (sym ep) (sym ev) (a_to n T' h a b x y u T k (x_on n T' h a b x y u T k))
      go (new (right_0 ev ep eq)) = re_edge (sym ep) (sym ev) (x, k.left)
      go (new (right_1 ev ep eq)) = re_edge (sym ep) (sym ev) (y_a n T' h a b x y u T k)
      go (new (right_2 ev ep eq)) = re_edge (sym ep) (sym ev) (a_to n T' h b a y x u₂ T k₂ (x_on n T' h b a y x u₂ T k₂))

  name_a : {p : ℕ} (σ : B p ⊎ A p) → A p → name a b σ ≡ a
  unfolding name
  name_a (inl l) m = absurd (clear l m)
  name_a (inr l) m = refl

  name_b : {p : ℕ} (σ : B p ⊎ A p) → B p → name a b σ ≡ b
  unfolding name
  name_b (inl l) m = refl
  name_b (inr l) m = absurd (clear m l)

  -- round a neighbour v of h, with t before it: where h stood, d and then c
  module _ (v t : ℕ) (ft : Follows T' h t v) (σ : B v ⊎ A v) (τ : B t ⊎ A t) where
    abbrev d : ℕ
    d = name a b σ

    abbrev c : ℕ
    c = name a b τ

    way : Reach (Follows T v) d c
    unfolding name
    way = go σ τ
      where
        go : (σ : B v ⊎ A v) (τ : B t ⊎ A t) → Reach (Follows T v) (name a b σ) (name a b τ)
        go (inl l) (inl m) = stay refl
        go (inr l) (inr m) = stay refl
        go (inr l) (inl m) = one_step (re (sym (cross n T' S h x y u.at_x u.at_y u.two m ft l)) refl refl (turn (turn k.left)))
        go (inl l) (inr m) = one_step (re (sym (cross n T' S h y x u.at_y u.at_x (λ e. u.two (sym e)) m ft l)) refl refl (turn (turn k.right)))

    c_step : {j : ℕ} → Follows T' h j v → Follows T v c j
    c_step {j} f = go τ
      where
        e : t ≡ j
        e = one n T' S (turn (turn ft)) (turn (turn f))

        go : B t ⊎ A t → Follows T v c j
        go (inl l) = re refl (sym (name_b τ l)) e (turn (turn (k.b_in ft l)))
        go (inr l) = re refl (sym (name_a τ l)) e (turn (turn (k.a_in ft l)))

    d_step : {i : ℕ} → Follows T' h v i → Follows T v i d
    d_step {i} f = go σ
      where
        go : B v ⊎ A v → Follows T v i d
        go (inl l) = re refl refl (sym (name_b σ l)) (turn (k.b_in f l))
        go (inr l) = re refl refl (sym (name_a σ l)) (turn (k.a_in f l))

    nh : v ≢ h
    nh = off_h (h_to ft)

    near_step : (i j : ℕ) → Follows T' v i j → Reach (Follows T v) (replace c h i) (replace c h j)
    near_step i j g = go (ℕ_discrete i h) (ℕ_discrete j h)
      where
        go : Dec (i ≡ h) → Dec (j ≡ h) → Reach (Follows T v) (replace c h i) (replace c h j)
        go (yes ei) (yes ej) = absurd (S.apart (turn g) (ei ∙ sym ej))
        go (yes ei) (no nj) = one_step (re refl (sym (replace_at c h ei)) (sym (replace_off c h nj)) (c_step (turn (re refl ei refl g))))
        go (no ni) (yes ej) = join (one_step (re refl (sym (replace_off c h ni)) refl (d_step (turn (turn (re refl refl ej g)))))) (rw (replace_at c h ej) way)
        go (no ni) (no nj) = one_step (re refl (sym (replace_off c h ni)) (sym (replace_off c h nj)) (k.plain_in g nh ni nj))

    data Seen (q : ℕ) : Type 0 where
      sees_c : q ≡ c → Seen q
      sees_d : q ≡ d → Seen q
      sees : Edge T' v q → q ≢ h → Seen q

    seen : {q w : ℕ} → v ≢ a → v ≢ b → Follows T v q w → Seen q
    seen {q} {w} na nb f = go (k.was f)
      where
        same : {i : ℕ} → Follows T' h i v → i ≡ t
        same g = one n T' S (turn (turn g)) (turn (turn ft))

        go : Was T' h a b x y v q w → Seen q
        go (plain g nv np nq) = sees (w, g) np
        go (a_0 i g l) = absurd (na i)
        go (a_1 i g l) = sees_c (i ∙ sym (name_a τ (re_arc (same g) l)))
        go (a_2 i g l) = sees (h, turn g) (off_h (h_to g))
        go (b_0 i g l) = absurd (nb i)
        go (b_1 i g l) = sees_c (i ∙ sym (name_b τ (re_arc (same g) l)))
        go (b_2 i g l) = sees (h, turn g) (off_h (h_to g))
        go (new (left_0 ev ep eq)) = absurd (na ev)
        go (new (left_1 ev ep eq)) = absurd (nb ev)
        go (new (left_2 ev ep eq)) = sees_d (ep ∙ sym (name_a σ (first ev (λ i. u.two (sym ev ∙ i)))))
        go (new (right_0 ev ep eq)) = absurd (nb ev)
        go (new (right_1 ev ep eq)) = absurd (na ev)
        go (new (right_2 ev ep eq)) = sees_d (ep ∙ sym (name_b σ (first ev (λ i. u.two (sym i ∙ ev)))))

    all_near : v ≢ a → v ≢ b → (q : ℕ) → Edge T v q → Reach (Follows T v) d q
    all_near na nb q e = go (seen na nb e.1)
      where
        go : Seen q → Reach (Follows T v) d q
        go (sees_c i) = rw i way
        go (sees_d i) = stay (sym i)
        go (sees g m) = join way (rw (replace_at c h refl, replace_off c h m) at (carry (replace c h) near_step (S.ring (t, turn (turn ft)) g)))

  -- round a corner that is no neighbour of h
  far : {v p q : ℕ} → ¬ Edge T' h v → v ≢ h → v ≢ a → v ≢ b → Edge T v p → Edge T v q → Reach (Follows T v) p q
  far {v} {p} {q} no-hv nv na nb e g = carry (λ i. i) (λ i j f. one_step (k.plain_in f nv (λ l. no-hv (S.both (j, re refl l refl f))) (λ l. no-hv (i, re l refl refl (turn (turn f)))))) (S.ring (old_edge e) (old_edge g))
    where
      old_edge : {q : ℕ} → Edge T v q → Edge T' v q
      old_edge {q} e = go (k.was e.1)
        where
          go : Was T' h a b x y v q e.0 → Edge T' v q
          go (plain g nv np nq) = (e.0, g)
          go (a_0 i g l) = absurd (na i)
          go (a_1 i g l) = absurd (no-hv (h_to g))
          go (a_2 i g l) = absurd (no-hv (q, g))
          go (b_0 i g l) = absurd (nb i)
          go (b_1 i g l) = absurd (no-hv (h_to g))
          go (b_2 i g l) = absurd (no-hv (q, g))
          go (new (left_0 ev ep eq)) = absurd (na ev)
          go (new (left_1 ev ep eq)) = absurd (nb ev)
          go (new (left_2 ev ep eq)) = absurd (no-hv (re_edge refl (sym ev) u.at_x))
          go (new (right_0 ev ep eq)) = absurd (nb ev)
          go (new (right_1 ev ep eq)) = absurd (na ev)
          go (new (right_2 ev ep eq)) = absurd (no-hv (re_edge refl (sym ev) u.at_y))

  pub ring_T : Once T → {v p q : ℕ} → Edge T v p → Edge T v q → Reach (Follows T v) p q
  unfolding name
  ring_T o {v} {p} {q} e g = go (ℕ_discrete v a) (ℕ_discrete v b) (edge? T' h v) (who e.1)
    where
      from : (v : ℕ) {s : ℕ} → Edge T v s → ((q : ℕ) → Edge T v q → Reach (Follows T v) s q) → Edge T v p → Edge T v q → Reach (Follows T v) p q
      from v es all = λ e g. ring_from T o (λ v p q f. apart_T f) (λ p q e. both_T e) v es all e g

      near : v ≢ a → v ≢ b → Edge T' h v → Reach (Follows T v) p q
      near na nb hv =
          let w = S.both hv in
          let ft = turn w.1 in
          let σ = sides hv in
          let τ = sides (v, ft) in
          from v (both_T (h_edge σ)) (all_near v w.0 ft σ τ na nb) e g
        where
          h_edge : (σ : B v ⊎ A v) → Edge T (name a b σ) v
          h_edge (inl l) = a_to n T' h b a y x u₂ T k₂ l
          h_edge (inr l) = a_to n T' h a b x y u T k l

      go : Dec (v ≡ a) → Dec (v ≡ b) → Dec (Edge T' h v) → Who v → Reach (Follows T v) p q
      go (yes i) d₁ d₂ w = rw i (from a (x, k.left) (all_a n T' h a b x y u T k) (re_edge i refl e) (re_edge i refl g))
      go (no na) (yes i) d₂ w = rw i (from b (y, k.right) (all_a n T' h b a y x u₂ T k₂) (re_edge i refl e) (re_edge i refl g))
      go (no na) (no nb) (yes hv) w = near na nb hv
      go (no na) (no nb) (no no-hv) (is_a i) = absurd (na i)
      go (no na) (no nb) (no no-hv) (is_b i) = absurd (nb i)
      go (no na) (no nb) (no no-hv) (other i nv) = far no-hv nv na nb e g

  -- every used corner is reached from a
  from_a_to : {v p : ℕ} → Edge T v p → Reach (Edge T) a v
  from_a_to {v} e = go (who e.1)
    where
      out : {q : ℕ} → B q ⊎ A q → Reach (Edge T) a q
      out (inl l) = step (x, k.left) (one_step (a_to n T' h b a y x u₂ T k₂ l))
      out (inr l) = one_step (a_to n T' h a b x y u T k l)

      on : (i j : ℕ) → Edge T' i j → Reach (Edge T) (replace a h i) (replace a h j)
      on i j g = go' (ℕ_discrete i h) (ℕ_discrete j h)
        where
          go' : Dec (i ≡ h) → Dec (j ≡ h) → Reach (Edge T) (replace a h i) (replace a h j)
          go' (yes ei) (yes ej) = stay (ap (replace a h) (ei ∙ sym ej))
          go' (yes ei) (no nj) = rw (replace_at a h ei, replace_off a h nj) (out (sides (re_edge ei refl g)))
          go' (no ni) (yes ej) = rw (replace_off a h ni, replace_at a h ej) (go_back (λ p q e. both_T e) (out (sides (S.both (re_edge refl ej g)))))
          go' (no ni) (no nj) = rw (replace_off a h ni, replace_off a h nj) (one_step (kept g ni nj))

      go : Who v → Reach (Edge T) a v
      go (is_a i) = stay (sym i)
      go (is_b i) = one_step (re_edge refl (sym i) (x, k.left))
      go (other w nv) = rw (replace_at a h refl, replace_off a h nv) at (carry (replace a h) on (S.joined (x, u.at_x) w))

  pub joined_T : {p q : ℕ} → Used T p → Used T q → Reach (Edge T) p q
  joined_T w z = join (go_back (λ p q e. both_T e) (from_a_to w.1)) (from_a_to z.1)

  pub forked_stage : Once T → length T ≡ 2 + length T' → length T ≤ most_rows → Stage n T
  forked_stage o len most = record {
    least = let m = S.least in omega arith;
    most = most;
    few = S.few;
    many = S.many;
    below = below_T;
    apart = apart_T;
    once = distinct_of_once T o (λ v p q f. apart_T f);
    both = both_T;
    ring = λ e g. ring_T o e g;
    joined = joined_T;
  }

  -- the new edge meets the link condition
  abbrev round_b : {p q : ℕ} → Follows T b p q → RoundA T' h a y x p q
  round_b f = round_a n T' h b a y x u₂ T k₂ f

  pub only_two : {w : ℕ} → Edge T a w → Edge T b w → (w ≡ x) ⊎ (w ≡ y)
  only_two {w} e g = go (round_a n T' h a b x y u T k e.1) (round_b g.1)
    where
      go : RoundA T' h b x y w e.0 → RoundA T' h a y x w g.0 → (w ≡ x) ⊎ (w ≡ y)
      go (old f l) (old f₂ l₂) = absurd (clear l₂ l)
      go (old f l) (from_b i j) = absurd (apart_T e.1 (sym i))
      go (old f l) (to_b i j) = inl i
      go (from_b i j) m = absurd (apart_T g.1 (sym i))
      go (to_b i j) m = inr i

  -- a row round a without b, between x and y, goes from x to y
  pub lies : {p q : ℕ} → Follows T a p q → (p ≡ x) ⊎ (p ≡ y) → (q ≡ x) ⊎ (q ≡ y) → Follows T' h x y
  lies {p} {q} f i j = go (round_a n T' h a b x y u T k f)
    where
      ends : Follows T' h p q → Arc T' h y x p → (p ≡ x) ⊎ (p ≡ y) → (q ≡ x) ⊎ (q ≡ y) → Follows T' h x y
      ends g l (inl e) (inl d) = absurd (S.apart (turn g) (e ∙ sym d))
      ends g l (inl e) (inr d) = re refl e d g
      ends g l (inr e) d = absurd (arc_short l e)

      off : {w : ℕ} → (w ≡ x) ⊎ (w ≡ y) → w ≢ b
      off (inl e) d = no_b u.at_x (sym e ∙ d)
      off (inr e) d = no_b u.at_y (sym e ∙ d)

      go : RoundA T' h b x y p q → Follows T' h x y
      go (old g l) = ends g l i j
      go (from_b e d) = absurd (off i e)
      go (to_b e d) = absurd (off j d)

-- the link condition in its working form
module _ (n : ℕ) (T' : List Row) (h a b x y : ℕ) (u : Hub n T' h a b x y) (T : List Row) (k : Forked T' h a b x y T) where
  pub forked_opposite : Opposite T a b x y
  forked_opposite = record { left = k.left; right = k.right; two = u.two; only = only_two n T' h a b x y u T k; no_edge = λ {p} {q} l m. none l m }
    where
      both : {p q : ℕ} → Edge T p q → Edge T q p
      both e = both_T n T' h a b x y u T k e

      xy : {p q : ℕ} → Link T a p q → (p ≡ x) ⊎ (p ≡ y) → (q ≡ x) ⊎ (q ≡ y) → Follows T' h x y
      xy (inl f) i j = lies n T' h a b x y u T k f i j
      xy (inr f) i j = lies n T' h a b x y u T k f j i

      flip : {w : ℕ} → (w ≡ x) ⊎ (w ≡ y) → (w ≡ y) ⊎ (w ≡ x)
      flip (inl e) = inr e
      flip (inr e) = inl e

      yx : {p q : ℕ} → Link T b p q → (p ≡ x) ⊎ (p ≡ y) → (q ≡ x) ⊎ (q ≡ y) → Follows T' h y x
      yx (inl f) i j = lies n T' h b a y x (swap_hub u) T (swap_fork k) f (flip i) (flip j)
      yx (inr f) i j = lies n T' h b a y x (swap_hub u) T (swap_fork k) f (flip j) (flip i)

      at_p : {v p q : ℕ} → Link T v p q → Edge T v p
      at_p {q = q} (inl f) = (q, f)
      at_p {q = q} (inr f) = both (q, turn (turn f))

      at_q : {v p q : ℕ} → Link T v p q → Edge T v q
      at_q {p = p} (inl f) = both (p, turn (turn f))
      at_q {p = p} (inr f) = (p, f)

      none : {p q : ℕ} → Link T a p q → Link T b p q → ⊥
      none l m =
          let i = only_two n T' h a b x y u T k (at_p l) (at_p m) in
          let j = only_two n T' h a b x y u T k (at_q l) (at_q m) in
          not_same n T' u.stage (turn (xy l i j)) (turn (yx m i j)) refl
