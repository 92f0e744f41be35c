-- Walks round corners: one step, the end, and what the marks tell.
use mathlib.Core.Path.{◌≡◌, refl, sym, ◌∙◌, ap}
use mathlib.Core.Logic.{◌≢◌, ◌⊎◌, inl, inr}
use mathlib.Core.List.{List}
use Prim.Native.Nat.{ℕ, zero, suc, ◌+◌, ◌-◌, ◌≤◌, ◌<◌}
use native.Mathlib.Decide.{ℕ_discrete}
use native.Mathlib.Omega.{arith}
use lib.ListN.{length, get_or, set, length-set}
use Rattle.surface.specs.Lists.{Reach, stay}
use Rattle.surface.specs.Rows.{rows}
use Rattle.surface.specs.Table.{Follows, Edge}
use Rattle.surface.proofs.Reaching.{join, one_step, within}
use Rattle.surface.proofs.Once.{once_of_distinct}
use Rattle.surface.proofs.Cycle.{ring_from}
use Rattle.faults.specs.Words.{Closed, ManyRings, OneRing}
use Rattle.slots.specs.Slot.{next_slot}
use Rattle.slots.specs.Chain.{Last}
use Rattle.slots.proofs.Slots.{follows_at, at_follows, at_edge, one_slot}
use Rattle.slots.proofs.Marks.{mark_new, mark_old, mark_out}
use Rattle.reverses.specs.Reverse.{onward_slot}
use Rattle.reverses.proofs.Back.{onward_at, onward_follows}
use Rattle.rings.specs.Walk.{CanWalk, begin, Sound, HandedOn, Walked, AllWalked}

-- the walk round v stands at e
pub record Walking (t last reverse m₀ m : List ℕ) (v e : ℕ) : Type 0 where
  pub marks : Sound t last m
  pub same : length m ≡ length m₀
  pub inside : e < length t
  pub at_v : get_or t e 0 ≡ v
  pub reached : Reach (Follows (rows t) v) (begin t last v) (get_or t (next_slot e) 0)
  pub nearly : (k : ℕ) → k < length t → get_or m k 0 ≢ 0 → (onward_slot reverse k ≡ e) ⊎ (get_or m (onward_slot reverse k) 0 ≢ 0)
  pub kept : (k : ℕ) → get_or m₀ k 0 ≢ 0 → get_or m k 0 ≢ 0
  pub begun : (e ≡ get_or last v 0 - 1) ⊎ (get_or m (get_or last v 0 - 1) 0 ≢ 0)

module _ (t last reverse : List ℕ) (r : CanWalk t last reverse) where
  pub walk_start : (m : List ℕ) (v x : ℕ) → v < length last → x ≡ get_or last v 0 → (x ≡ 0 → ⊥) → Sound t last m → HandedOn t reverse m →
      Walking t last reverse m m v (x - 1)
  unfolding begin
  walk_start m v x h e n k c =
      let l = r.heads.lasts v h in
      let u = l.upto in
      record {
        marks = k;
        same = refl;
        inside = omega arith;
        at_v = ap (λ (z : ℕ). get_or t (z - 1) 0) e ∙ l.hit (omega arith);
        reached = stay (ap (λ (z : ℕ). get_or t (next_slot (z - 1)) 0) (sym e));
        nearly = λ k a b. inr (c.on k a b);
        kept = λ k h. h;
        begun = inl (ap (λ (z : ℕ). z - 1) e);
      }

  pub walk_more : (m₀ m : List ℕ) (v e : ℕ) → Walking t last reverse m₀ m v e → Walking t last reverse m₀ (set m e 1) v (onward_slot reverse e)
  walk_more m₀ m v e s =
      let a = s.marks.room in
      let b = s.inside in
      let k = s.same in
      let n = onward_at t reverse r.whole r.back e b in
      record {
        marks = record { room = simp length-set a; sound = λ k h q. sounds k h (mark_out m e k q) };
        same = simp length-set k;
        inside = n.inside;
        at_v = n.same ∙ s.at_v;
        reached = join s.reached (one_step (rw s.at_v at (onward_follows t reverse r.whole r.back e b)));
        nearly = λ k h q. near k h (mark_out m e k q);
        kept = λ k h. mark_old m e k (omega arith) (s.kept k h);
        begun = inr (begins s.begun);
      }
    where
      fit : e < length m
      fit = let a = s.marks.room in let b = s.inside in omega arith

      sounds : (k : ℕ) → k < length t → (k ≡ e) ⊎ (get_or m k 0 ≢ 0) → Reach (Follows (rows t) (get_or t k 0)) (begin t last (get_or t k 0)) (get_or t (next_slot k) 0)
      sounds k h (inl q) = rw (q, s.at_v) s.reached
      sounds k h (inr q) = s.marks.sound k h q

      near : (k : ℕ) → k < length t → (k ≡ e) ⊎ (get_or m k 0 ≢ 0) → (onward_slot reverse k ≡ onward_slot reverse e) ⊎ (get_or (set m e 1) (onward_slot reverse k) 0 ≢ 0)
      near k h (inl q) = inl (ap (λ (z : ℕ). onward_slot reverse z) q)
      near k h (inr q) = two (s.nearly k h q)
        where
          two : (onward_slot reverse k ≡ e) ⊎ (get_or m (onward_slot reverse k) 0 ≢ 0) →
              (onward_slot reverse k ≡ onward_slot reverse e) ⊎ (get_or (set m e 1) (onward_slot reverse k) 0 ≢ 0)
          two (inl x) = inr (mark_new m e (onward_slot reverse k) fit x)
          two (inr x) = inr (mark_old m e (onward_slot reverse k) fit x)

      begins : (e ≡ get_or last v 0 - 1) ⊎ (get_or m (get_or last v 0 - 1) 0 ≢ 0) → get_or (set m e 1) (get_or last v 0 - 1) 0 ≢ 0
      begins (inl q) = mark_new m e _ fit (sym q)
      begins (inr q) = mark_old m e _ fit q

  pub walk_end : (m₀ m : List ℕ) (v e : ℕ) → Walking t last reverse m₀ m v e → get_or m e 0 ≢ 0 → Walked t last reverse m₀ m v
  walk_end m₀ m v e s n = record {
    marks = s.marks;
    hands = record { on = λ k h q. ends k (s.nearly k h q) };
    kept = s.kept;
    begun = λ p. begins s.begun;
  }
    where
      ends : (k : ℕ) → (onward_slot reverse k ≡ e) ⊎ (get_or m (onward_slot reverse k) 0 ≢ 0) → get_or m (onward_slot reverse k) 0 ≢ 0
      ends k (inl q) = rw q n
      ends k (inr q) = q

      begins : (e ≡ get_or last v 0 - 1) ⊎ (get_or m (get_or last v 0 - 1) 0 ≢ 0) → get_or m (get_or last v 0 - 1) 0 ≢ 0
      begins (inl q) = rw (sym q) n
      begins (inr q) = q

  pub walks_more : (m m' : List ℕ) (v : ℕ) → AllWalked t last reverse m v → Walked t last reverse m m' v → AllWalked t last reverse m' (v + 1)
  walks_more m m' v k w = record { marks = w.marks; hands = w.hands; begun = λ u h p. go u h p (ℕ_discrete u v) }
    where
      go : (u : ℕ) → u < v + 1 → 0 < get_or last u 0 → Dec (u ≡ v) → get_or m' (get_or last u 0 - 1) 0 ≢ 0
      go u h p (yes e) = rw e (w.begun (rw e at p))
      go u h p (no e) = w.kept _ (k.begun u (omega arith) p)

  -- all walks made: what the marks tell
  module _ (n : ℕ) (m : List ℕ) (few : n ≤ length last) (k : AllWalked t last reverse m n) (closed : Closed n (rows t)) where
    -- the slot at which the walk round v begins
    pub record Begin (v : ℕ) : Type 0 where
      pub e : ℕ
      pub inside : e < length t
      pub at_v : get_or t e 0 ≡ v
      pub neighbour : get_or t (next_slot e) 0 ≡ begin t last v
      pub marked : get_or m e 0 ≢ 0

    pub begin_at : (v p q : ℕ) → Follows (rows t) v p q → Begin v
    unfolding begin
    begin_at v p q f =
        let a = follows_at t r.whole.threes f in
        let b = closed.below v p q f in
        let l = r.heads.lasts v (omega arith) in
        let u = l.upto in
        let pos = positive (get_or last v 0) l a.e a.inside a.is_v in
        record { e = get_or last v 0 - 1; inside = omega arith; at_v = l.hit pos; neighbour = refl; marked = k.begun v b pos }
      where
        positive : (x : ℕ) → Last t v (length t) x → (e : ℕ) → e < length t → get_or t e 0 ≡ v → 0 < x
        positive zero l e h q = absurd (l.miss e (omega arith) h q)
        positive (suc x) l e h q = omega arith

    begin_edge : (v : ℕ) → Begin v → Edge (rows t) v (begin t last v)
    begin_edge v b = rw (b.at_v, b.neighbour) at (at_edge t r.whole.threes b.e b.inside)

    -- a slot that is not marked is not reached: 10
    pub many_at : (e : ℕ) → e < length t → get_or m e 0 ≡ 0 → ManyRings (rows t)
    many_at e h z =
        let v = get_or t e 0 in
        let f = at_follows t r.whole.threes e h in
        let b = begin_at v _ _ f in
        record {
          v = v;
          p = begin t last v;
          q = get_or t (next_slot e) 0;
          one = begin_edge v b;
          other = (get_or t (next_slot (next_slot e)) 0, f);
          apart = λ c. within P (λ z z' g a f k j q. hands z z' g a f k j q) c (λ f k j q. rw (one_slot t r.whole.threes closed.once f b.e k b.inside (j ∙ sym b.at_v) (q ∙ sym b.neighbour)) b.marked) e h refl refl z;
        }
      where
        P : ℕ → Type 0
        P z = (f : ℕ) → f < length t → get_or t f 0 ≡ get_or t e 0 → get_or t (next_slot f) 0 ≡ z → get_or m f 0 ≢ 0

        hands : (z z' : ℕ) → Follows (rows t) (get_or t e 0) z z' → P z → P z'
        hands z z' g a f h j q =
            let u = follows_at t r.whole.threes g in
            let n = onward_at t reverse r.whole r.back u.e u.inside in
            let x = k.hands.on u.e u.inside (a u.e u.inside u.is_v u.is_p) in
            rw (one_slot t r.whole.threes closed.once f (onward_slot reverse u.e) h n.inside (j ∙ sym u.is_v ∙ sym n.same) (q ∙ sym u.is_q ∙ sym n.third)) x

    -- where all are marked, every neighbour is reached from the first, and so from any
    pub one_all : ((e : ℕ) → e < length t → get_or m e 0 ≢ 0) → OneRing (rows t)
    one_all all v p q e g =
        let b = begin_at v p e.0 e.1 in
        ring_from (rows t) (once_of_distinct (rows t) closed.once) closed.apart closed.both v (begin_edge v b) (λ z h. there z h) e g
      where
        there : (z : ℕ) → Edge (rows t) v z → Reach (Follows (rows t) v) (begin t last v) z
        there z h =
            let a = follows_at t r.whole.threes h.1 in
            rw (a.is_v, a.is_p) at (k.marks.sound a.e a.inside (all a.e a.inside))
