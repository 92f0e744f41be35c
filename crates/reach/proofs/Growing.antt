-- Reaching on: one corner noted, one step along a chain, one corner done, and what the marks tell.
use mathlib.Core.Path.{◌≡◌, refl, sym, ◌∙◌, ap}
use mathlib.Core.Logic.{◌≢◌, ◌⊎◌, inl, inr}
use mathlib.Core.List.{List}
use Prim.Native.Nat.{ℕ, ◌+◌, ◌-◌, ◌≤◌, ◌<◌}
use native.Mathlib.Decide.{ℕ_discrete, dec_lt}
use native.Mathlib.Omega.{arith}
use lib.ListN.{length, get_or, set, length-set}
use lib.Seq.{get_or-set_same, get_or-set_other}
use Rattle.surface.specs.Lists.{Reach, stay}
use Rattle.surface.specs.Rows.{rows}
use Rattle.surface.specs.Table.{Edge, Used}
use Rattle.surface.proofs.Reaching.{join, one_step, within, go_back}
use Rattle.faults.specs.Words.{BothWays, Parted, Connected}
use Rattle.slots.specs.Slot.{next_slot, Whole}
use Rattle.slots.specs.Chain.{Last}
use Rattle.slots.specs.Marks.{Blank}
use Rattle.slots.proofs.Slots.{follows_at, at_edge, at_used}
use Rattle.slots.proofs.Marks.{zeros_set, zeros_blank, mark_new, mark_old, mark_out}
use Rattle.reach.specs.Reaching.{Noted, old, new, Reached, Grew, AllReached}

-- the corners queued before h have their neighbours marked
pub record Reaching (t m q : List ℕ) (h l : ℕ) : Type 0 where
  pub state : Reached t m q l
  pub base : get_or q 0 0 ≡ get_or t 0 0
  pub done : (k : ℕ) → k < h → (e : ℕ) → e < length t → get_or t e 0 ≡ get_or q k 0 → get_or m (get_or t (next_slot e) 0) 0 ≢ 0

module _ (t : List ℕ) (w : Whole t) where
  reached_new : (m q : List ℕ) (l u : ℕ) → Reached t m q l → u < length m → get_or m u 0 ≡ 0 → Reach (Edge (rows t)) (get_or q 0 0) u →
      Reached t (set m u 1) (set q l u) (l + 1)
  reached_new m q l u s h z c =
      let zs = zeros_set m u h z in
      let ct = s.count in
      let rm = s.room in
      let sm = s.some in
      let base : get_or (set q l u) 0 0 ≡ get_or q 0 0 = get_or-set_other q l 0 u 0 (λ e. omega arith) in
      record {
        some = omega arith;
        room = simp length-set rm;
        held = λ k b. simp length-set (holds k b (ℕ_discrete k l) (omega arith));
        marked = λ k b. marks k b (ℕ_discrete k l) (omega arith);
        sound = λ v n. rw base (sounds v (mark_out m u v n));
        queued = λ v n. queue v (omega arith) (mark_out m u v n);
        count = simp length-set (omega arith);
      }
    where
      holds : (k : ℕ) → k < l + 1 → Dec (k ≡ l) → l < length q → get_or (set q l u) k 0 < length m
      holds k b (yes e) r = rw (e, get_or-set_same q l u 0 r) h
      holds k b (no e) r = rw (get_or-set_other q l k u 0 e) (s.held k (omega arith))

      marks : (k : ℕ) → k < l + 1 → Dec (k ≡ l) → l < length q → get_or (set m u 1) (get_or (set q l u) k 0) 0 ≢ 0
      marks k b (yes e) r = mark_new m u _ h (ap (λ (i : ℕ). get_or (set q l u) i 0) e ∙ get_or-set_same q l u 0 r)
      marks k b (no e) r = rw (get_or-set_other q l k u 0 e) (mark_old m u _ h (s.marked k (omega arith)))

      sounds : (v : ℕ) → (v ≡ u) ⊎ (get_or m v 0 ≢ 0) → Reach (Edge (rows t)) (get_or q 0 0) v
      sounds v (inl e) = rw e c
      sounds v (inr n) = s.sound v n

      queue : (v : ℕ) → l < length q → (v ≡ u) ⊎ (get_or m v 0 ≢ 0) → (k : ℕ) × (k < l + 1) × (get_or (set q l u) k 0 ≡ v)
      queue v r (inl e) = (l, omega arith, get_or-set_same q l u 0 r ∙ sym e)
      queue v r (inr n) =
          let a = s.queued v n in
          let b = a.1 in
          (a.0, omega arith, get_or-set_other q l a.0 u 0 (λ e. omega arith) ∙ a.2)

  -- the slot e of v, at the step from x to y
  pub grow_more : (v : ℕ) (m₀ q₀ : List ℕ) (l₀ : ℕ) (m q : List ℕ) (l x : ℕ) → (m' q' : List ℕ) (l' y : ℕ) →
      Grew t v m₀ q₀ l₀ m q l x → get_or m₀ v 0 ≢ 0 → (x ≡ 0 → ⊥) → x ≤ length t → get_or t (x - 1) 0 ≡ v → get_or t (next_slot (x - 1)) 0 < length m →
      Noted m q (get_or t (next_slot (x - 1)) 0) l m' q' l' → Last t (get_or t (x - 1) 0) (x - 1) y → Grew t v m₀ q₀ l₀ m' q' l' y
  grow_more v m₀ q₀ l₀ m q l x m' q' l' y g mv nz xl xv small nt la = go nt
    where
      u : ℕ
      u = get_or t (next_slot (x - 1)) 0

      reach : Reach (Edge (rows t)) (get_or q 0 0) (get_or t (next_slot (x - 1)) 0)
      reach = join (g.state.sound v (g.kept v mv)) (one_step (rw xv at (at_edge t w.threes (x - 1) (omega arith))))

      near : (n : List ℕ) → ((k : ℕ) → get_or m k 0 ≢ 0 → get_or n k 0 ≢ 0) → get_or n (get_or t (next_slot (x - 1)) 0) 0 ≢ 0 → (e : ℕ) → y ≤ e → e < length t → get_or t e 0 ≡ v →
          get_or n (get_or t (next_slot e) 0) 0 ≢ 0
      near n kept here e a b c = two (ℕ_discrete e (x - 1)) (dec_lt e x)
        where
          two : Dec (e ≡ x - 1) → Dec (e < x) → get_or n (get_or t (next_slot e) 0) 0 ≢ 0
          two (yes k) d = rw k here
          two (no k) (yes d) = absurd (la.miss e a (omega arith) (c ∙ sym xv))
          two (no k) (no d) = kept _ (g.near e (omega arith) b c)

      go : Noted m q (get_or t (next_slot (x - 1)) 0) l m' q' l' → Grew t v m₀ q₀ l₀ m' q' l' y
      go (old n em eq el) = rw (em, eq, el) (record {
        state = g.state;
        longer = g.longer;
        same_m = g.same_m;
        same_q = g.same_q;
        kept = g.kept;
        front = g.front;
        near = near m (λ k h. h) n;
      })
      go (new z em eq el) = rw (em, eq, el) (
          let a = g.longer in
          let b = g.same_m in
          let c = g.same_q in
          record {
            state = reached_new m q l _ g.state small z reach;
            longer = omega arith;
            same_m = simp length-set b;
            same_q = simp length-set c;
            kept = λ k h. mark_old m _ k small (g.kept k h);
            front = λ k h. get_or-set_other q l k _ 0 (λ e. omega arith) ∙ g.front k h;
            near = near (set m (get_or t (next_slot (x - 1)) 0) 1) (λ k h. mark_old m _ k small h) (mark_new m _ _ small refl);
          })

  pub reach_none : (m q : List ℕ) → Blank m → length m ≤ length q → get_or t 0 0 < length m → Reaching t (set m (get_or t 0 0) 1) (set q 0 (get_or t 0 0)) 0 1
  reach_none m q b r h =
      let u = get_or t 0 0 in
      let z = zeros_set m u h (b.blank u) in
      let y = zeros_blank m b.blank in
      let base : get_or (set q 0 u) 0 0 ≡ u = get_or-set_same q 0 u 0 (omega arith) in
      record {
        state = record {
          some = omega arith;
          room = simp length-set r;
          held = λ k l. simp length-set (let e : k ≡ 0 = omega arith in rw (e, base) h);
          marked = λ k l. let e : k ≡ 0 = omega arith in mark_new m u _ h (rw (e, base) refl);
          sound = λ v n. rw base (sounds v (mark_out m u v n));
          queued = λ v n. (0, omega arith, base ∙ same v (mark_out m u v n));
          count = simp length-set (omega arith);
        };
        base = base;
        done = λ k l. absurd (omega arith);
      }
    where
      sounds : (v : ℕ) → (v ≡ get_or t 0 0) ⊎ (get_or m v 0 ≢ 0) → Reach (Edge (rows t)) (get_or t 0 0) v
      sounds v (inl e) = stay (sym e)
      sounds v (inr n) = absurd (n (b.blank v))

      same : (v : ℕ) → (v ≡ get_or t 0 0) ⊎ (get_or m v 0 ≢ 0) → get_or t 0 0 ≡ v
      same v (inl e) = sym e
      same v (inr n) = absurd (n (b.blank v))

  pub reach_more : (m q : List ℕ) (h l : ℕ) (m' q' : List ℕ) (l' : ℕ) → h < l → Reaching t m q h l → Grew t (get_or q h 0) m q l m' q' l' 0 → Reaching t m' q' (h + 1) l'
  reach_more m q h l m' q' l' b f g =
      let sm = f.state.some in
      record { state = g.state; base = g.front 0 sm ∙ f.base; done = λ k c e i j. go k c e i j (ℕ_discrete k h) }
    where
      go : (k : ℕ) → k < h + 1 → (e : ℕ) → e < length t → get_or t e 0 ≡ get_or q' k 0 → Dec (k ≡ h) → get_or m' (get_or t (next_slot e) 0) 0 ≢ 0
      go k c e i j (yes x) = g.near e (omega arith) i (j ∙ g.front k (omega arith) ∙ ap (λ (z : ℕ). get_or q z 0) x)
      go k c e i j (no x) = g.kept _ (f.done k (omega arith) e i (j ∙ g.front k (omega arith)))

  pub reach_end : (m q : List ℕ) (h l : ℕ) → l ≤ h → 0 < length t → Reaching t m q h l → AllReached t m
  reach_end m q h l b some f = record {
    root = get_or q 0 0;
    used = rw (sym f.base) at (at_used t w.threes 0 some);
    start = f.state.marked 0 f.state.some;
    sound = f.state.sound;
    closed = λ e i n. go e i (f.state.queued (get_or t e 0) n);
  }
    where
      go : (e : ℕ) → e < length t → (k : ℕ) × (k < l) × (get_or q k 0 ≡ get_or t e 0) → get_or m (get_or t (next_slot e) 0) 0 ≢ 0
      go e i a = let c = a.1 in f.done a.0 (omega arith) e i (sym a.2)

  -- a corner that is not marked is not reached: 11
  pub parted_at : (m : List ℕ) (e : ℕ) → e < length t → AllReached t m → get_or m (get_or t e 0) 0 ≡ 0 → Parted (rows t)
  parted_at m e h f z = record {
    p = f.root;
    q = get_or t e 0;
    one = f.used;
    other = at_used t w.threes e h;
    apart = λ c. within (λ v. get_or m v 0 ≢ 0) (λ p q g n. hands p q g n) c f.start z;
  }
    where
      hands : (p q : ℕ) → Edge (rows t) p q → get_or m p 0 ≢ 0 → get_or m q 0 ≢ 0
      hands p q g n =
          let a = follows_at t w.threes g.1 in
          rw a.is_p at (f.closed a.e a.inside (rw (sym a.is_v) at n))

  -- where all are marked, every used corner is reached from the root, and so from any
  pub connected_all : (m : List ℕ) → AllReached t m → BothWays (rows t) → ((e : ℕ) → e < length t → get_or m (get_or t e 0) 0 ≢ 0) → Connected (rows t)
  connected_all m f both all p q a b = join (go_back both (there p a)) (there q b)
    where
      there : (v : ℕ) → Used (rows t) v → Reach (Edge (rows t)) f.root v
      there v u =
          let a = follows_at t w.threes u.1.1 in
          f.sound v (rw a.is_v at (all a.e a.inside))
