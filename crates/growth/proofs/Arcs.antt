-- The ring round a corner falls into two arcs: from y forward before x, and from x forward before y.
use mathlib.Core.Path.{◌≡◌, refl, sym, ◌∙◌}
use mathlib.Core.Logic.{◌≢◌, ◌⊎◌, inl, inr}
use mathlib.Core.List.{List}
use Prim.Native.Nat.{ℕ}
use native.Mathlib.Decide.{ℕ_discrete}
use Rattle.surface.specs.Lists.{Reach, stay}
use Rattle.surface.specs.Rows.{Row}
use Rattle.surface.specs.Table.{Follows, Edge}
use Rattle.surface.specs.Stage.{Stage}
use Rattle.surface.proofs.Reaching.{join, one_step, carry, within, Past, before}
use Rattle.surface.proofs.Once.{turn}
use Rattle.surface.proofs.Following.{re_edge, follows_same as one}
use Rattle.growth.specs.Grow.{Between}

-- from y forward round h, before x, built from the far end
pub data Arc (T : List Row) (h x y : ℕ) : ℕ → Type 0 where
  first : {p : ℕ} → p ≡ y → p ≢ x → Arc T h x y p
  next : {s p : ℕ} → Arc T h x y s → Follows T h s p → p ≢ x → Arc T h x y p

pub arc_short : {T : List Row} {h x y p : ℕ} → Arc T h x y p → p ≢ x
arc_short (first e n) = n
arc_short (next k f n) = n

pub arc_of : {T : List Row} {h x y p : ℕ} → Between T h x y p → Arc T h x y p
arc_of {T} {h} {x} {y} {p} b = within (λ t. t ≢ x → Arc T h x y t) (λ i j s k n. next (k s.1) s.0 n) b.on (λ n. first refl n) b.short

pub arc_between : {T : List Row} {h x y p : ℕ} → Arc T h x y p → Between T h x y p
arc_between (first e n) = record { on = stay (sym e); short = n }
arc_between (next k f n) = let b = arc_between k in record { on = join b.on (one_step (f, b.short)); short = n }

pub re_arc : {T : List Row} {h x y p q : ℕ} → p ≡ q → Arc T h x y p → Arc T h x y q
re_arc e k = rw e at k

module _ (n : ℕ) (T : List Row) (s : Stage n T) (h x y : ℕ) (at_x : Edge T h x) (at_y : Edge T h y) (two : x ≢ y) where
  -- each neighbour lies on one arc, and on one only
  pub arc_edge : {p : ℕ} → Arc T h x y p → Edge T h p
  arc_edge (first e n) = re_edge refl (sym e) at_y
  arc_edge (next {s = i} k f n) = s.both (i, turn (turn f))

  pub split : {p : ℕ} → Edge T h p → Arc T h x y p ⊎ Arc T h y x p
  split {p} e = within (λ t. Arc T h x y t ⊎ Arc T h y x t) (λ i j f k. go i j f (ℕ_discrete j x) (ℕ_discrete j y) k) (s.ring at_y e) (inl (first refl (λ k. two (sym k))))
    where
      go : (i j : ℕ) → Follows T h i j → Dec (j ≡ x) → Dec (j ≡ y) → Arc T h x y i ⊎ Arc T h y x i → Arc T h x y j ⊎ Arc T h y x j
      go i j f (yes e) d k = inr (first e (λ l. two (sym e ∙ l)))
      go i j f (no nx) (yes e) k = inl (first e nx)
      go i j f (no nx) (no ny) (inl k) = inl (next k f nx)
      go i j f (no nx) (no ny) (inr k) = inr (next k f ny)

  pub not_both : {p : ℕ} → Arc T h x y p → Arc T h y x p → ⊥
  not_both (first e n) l = arc_short l e
  not_both (next k f n) (first e m) = n e
  not_both (next {s = i} k f nx) (next {s = j} l g ny) = not_both k (re_arc (one n T s (turn (turn g)) (turn (turn f))) l)

  -- what x follows lies on the arc that ends at x
  pub ends_at : {q : ℕ} → Follows T h q x → Arc T h x y q
  ends_at {q} f = arc_of (record { on = carry (λ i. i) (λ i j g. one_step (g.0, g.1)) way; short = s.apart (turn f) })
    where
      way : Reach (Past (Follows T h) x) y q
      way = before x {y = q} (λ t g. one n T s (turn (turn g)) (turn (turn f))) refl (λ k. two (sym k)) (s.ring at_y at_x)

  -- the other arc begins at x alone
  pub cross : {p q : ℕ} → Arc T h x y p → Follows T h p q → Arc T h y x q → q ≡ x
  cross {p} {q} k f l = go (ℕ_discrete q x)
    where
      go : Dec (q ≡ x) → q ≡ x
      go (yes e) = e
      go (no nx) = absurd (not_both (next k f nx) l)
