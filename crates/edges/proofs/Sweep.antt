-- The sweep over the corners: one slot put down, one reverse found, one corner done.
use mathlib.Core.Path.{◌≡◌, refl, sym, ◌∙◌, ap}
use mathlib.Core.Logic.{◌≢◌, inl, inr}
use mathlib.Core.List.{List}
use Prim.Native.Nat.{ℕ, ◌+◌, ◌-◌, ◌≤◌, ◌<◌, ◌%◌}
use native.Mathlib.Decide.{ℕ_discrete, dec_lt}
use native.Mathlib.Omega.{arith}
use lib.ListN.{length, get_or, set, length-set}
use lib.Seq.{get_or-set_same, get_or-set_other}
use Rattle.surface.specs.Rows.{rows}
use Rattle.surface.specs.Table.{◌⇒◌, edges}
use Rattle.surface.proofs.Flat.{differ_places}
use Rattle.faults.specs.Words.{EdgeRepeats, EdgesOnce}
use Rattle.faults.proofs.Opposites.{same_twice}
use Rattle.slots.specs.Slot.{next_slot, Whole, Under}
use Rattle.slots.specs.Chain.{Last}
use Rattle.slots.specs.Marks.{Blank}
use Rattle.slots.proofs.Slots.{next_inside, next_round, edges_at, edges_length, same_edge}
use Rattle.edges.specs.Sweep.{Found, Swept, Picked, Entries, Entered, FoundTo}

-- where the walk along u's chain stands at x
pub record Entering (t ends : List ℕ) (u x : ℕ) : Type 0 where
  pub upto : x ≤ length t
  pub from : 0 < x → get_or t (x - 1) 0 ≡ u
  pub entries : Entries t ends u x
  pub done : Entered t ends u x

module _ (t : List ℕ) (w : Whole t) where
  -- the directed edge is at another slot too
  pub enter_twice : (ends : List ℕ) (u x r : ℕ) → (x ≡ 0 → ⊥) → Entering t ends u x → Picked t (get_or ends (get_or t (next_slot (x - 1)) 0) 0) u r → (r ≡ 0 → ⊥) →
      EdgeRepeats (rows t)
  enter_twice ends u x r nz s p nr =
      let e = p.same (omega arith) in
      let hit = p.hit (omega arith) in
      go (s.entries.upto c) (s.entries.to c (omega arith)) hit (s.entries.who c (omega arith))
    where
      c : ℕ
      c = get_or t (next_slot (x - 1)) 0

      y : ℕ
      y = get_or ends c 0

      go : y ≤ length t → get_or t (next_slot (y - 1)) 0 ≡ c → get_or t (y - 1) 0 ≡ u → Swept t u x (y - 1) → EdgeRepeats (rows t)
      go a to hit (inl h) = absurd (omega arith)
      go a to hit (inr h) =
          let l = h.1 in
          let n = edges_length t w.threes in
          same_twice (0 ⇒ 0) (edges (rows t)) (x - 1) (y - 1) (omega arith) (omega arith) (same_edge t w.threes (x - 1) (y - 1) (omega arith) (omega arith) (s.from (omega arith) ∙ sym hit) (sym to))

  pub enter_more : (ends : List ℕ) (u x r y : ℕ) → (x ≡ 0 → ⊥) → get_or t (next_slot (x - 1)) 0 < length ends → Entering t ends u x →
      Picked t (get_or ends (get_or t (next_slot (x - 1)) 0) 0) u r → r ≡ 0 → Last t (get_or t (x - 1) 0) (x - 1) y → Entering t (set ends (get_or t (next_slot (x - 1)) 0) x) u y
  enter_more ends u x r y nz small s p z l =
      let a = l.upto in
      let b = s.upto in
      let v = s.from (omega arith) in
      record {
        upto = omega arith;
        from = λ q. l.hit q ∙ v;
        entries = record { upto = λ c. up c (ℕ_discrete c c₀); to = λ c. to c (ℕ_discrete c c₀); who = λ c. who c (ℕ_discrete c c₀) v };
        done = record { entered = λ e i j k. all e i j k v (ℕ_discrete e (x - 1)) (dec_lt e x) (ℕ_discrete (get_or t (next_slot e) 0) c₀) };
      }
    where
      c₀ : ℕ
      c₀ = get_or t (next_slot (x - 1)) 0

      new : get_or (set ends c₀ x) c₀ 0 ≡ x
      new = get_or-set_same ends c₀ x 0 small

      up : (c : ℕ) → Dec (c ≡ c₀) → get_or (set ends c₀ x) c 0 ≤ length t
      up c (yes q) = rw (q, new) s.upto
      up c (no q) = rw (get_or-set_other ends c₀ c x 0 q) (s.entries.upto c)

      to : (c : ℕ) → Dec (c ≡ c₀) → 0 < get_or (set ends c₀ x) c 0 → get_or t (next_slot (get_or (set ends c₀ x) c 0 - 1)) 0 ≡ c
      to c (yes q) = rw (q, new) (λ h. refl)
      to c (no q) = rw (get_or-set_other ends c₀ c x 0 q) (s.entries.to c)

      who : (c : ℕ) → Dec (c ≡ c₀) → get_or t (x - 1) 0 ≡ u → 0 < get_or (set ends c₀ x) c 0 → Swept t u y (get_or (set ends c₀ x) c 0 - 1)
      who c (yes q) v = rw (q, new) (λ h. inr (v, let a = l.upto in omega arith))
      who c (no q) v = rw (get_or-set_other ends c₀ c x 0 q) (λ h. down (s.entries.who c h))
        where
          down : Swept t u x (get_or ends c 0 - 1) → Swept t u y (get_or ends c 0 - 1)
          down (inl h) = inl h
          down (inr h) = let a = l.upto in let b = h.1 in inr (h.0, omega arith)

      all : (e : ℕ) → y ≤ e → e < length t → get_or t e 0 ≡ u → get_or t (x - 1) 0 ≡ u → Dec (e ≡ x - 1) → Dec (e < x) → Dec (get_or t (next_slot e) 0 ≡ c₀) →
          get_or (set ends c₀ x) (get_or t (next_slot e) 0) 0 ≡ e + 1
      all e i j k v (yes q) d f = ap (λ (z : ℕ). get_or (set ends c₀ x) (get_or t (next_slot z) 0) 0) q ∙ new ∙ omega arith
      all e i j k v (no q) (yes d) f = absurd (l.miss e i (omega arith) (k ∙ sym v))
      all e i j k v (no q) (no d) (yes f) =
          let g : get_or ends c₀ 0 ≡ e + 1 = ap (λ (z : ℕ). get_or ends z 0) (sym f) ∙ s.done.entered e (omega arith) j k in
          let h : get_or ends c₀ 0 - 1 ≡ e = omega arith in
          absurd (p.miss z (omega arith) (ap (λ (z : ℕ). get_or t z 0) h ∙ k))
      all e i j k v (no q) (no d) (no f) = get_or-set_other ends c₀ (get_or t (next_slot e) 0) x 0 f ∙ s.done.entered e (omega arith) j k

-- where every slot of u stands in ends, what is picked is the slot of the directed edge from u to c
pub picked_found : (t ends : List ℕ) (u c r : ℕ) → Entries t ends u 0 → Entered t ends u 0 → Picked t (get_or ends c 0) u r → Found t u c r
picked_found t ends u c r a s p = go (ℕ_discrete r 0)
  where
    go : Dec (r ≡ 0) → Found t u c r
    go (yes z) = record {
      upto = omega arith;
      from = λ h. absurd (omega arith);
      to = λ h. absurd (omega arith);
      miss = λ e i j k q. let g : get_or ends c 0 ≡ e + 1 = ap (λ (z : ℕ). get_or ends z 0) (sym q) ∙ s.entered e (omega arith) j k in
          let h : get_or ends c 0 - 1 ≡ e = omega arith in
          p.miss z (omega arith) (ap (λ (z : ℕ). get_or t z 0) h ∙ k);
    }
    go (no n) =
        let e = p.same (omega arith) in
        let b = a.upto c in
        record {
          upto = omega arith;
          from = λ h. ap (λ (z : ℕ). get_or t (z - 1) 0) e ∙ p.hit h;
          to = λ h. ap (λ (z : ℕ). get_or t (next_slot (z - 1)) 0) e ∙ a.to c (omega arith);
          miss = λ f i j k q. let g : get_or ends c 0 ≡ f + 1 = ap (λ (z : ℕ). get_or ends z 0) (sym q) ∙ s.entered f (omega arith) j k in omega arith;
        }

-- where the walk along u's chain stands at x: the reverses of the edges to u from its slots from x on
pub record Finding (t reverse : List ℕ) (u x : ℕ) : Type 0 where
  pub upto : x ≤ length t
  pub from : 0 < x → get_or t (x - 1) 0 ≡ u
  pub back : FoundTo t reverse u x

pub find_start : (t reverse : List ℕ) (u x : ℕ) → length t % 3 ≡ 0 → Last t u (length t) x → FoundTo t reverse u (length t) → Finding t reverse u x
find_start t reverse u x w l m = record { upto = l.upto; from = l.hit; back = record { room = m.room; found = λ k h s. m.found k h (go k h s) } }
  where
    go : (k : ℕ) → k < length t → Swept t u x (next_slot k) → Swept t u (length t) (next_slot k)
    go k h (inl a) = inl a
    go k h (inr a) = absurd (l.miss (next_slot k) a.1 (next_inside (length t) k w h) a.0)

pub find_more : (t ends reverse : List ℕ) (u x r y : ℕ) → length t % 3 ≡ 0 → (x ≡ 0 → ⊥) → Finding t reverse u x →
    Found t u (get_or t (next_slot (next_slot (x - 1))) 0) r → Last t (get_or t (x - 1) 0) (x - 1) y → Finding t (set reverse (next_slot (next_slot (x - 1))) r) u y
find_more t ends reverse u x r y w nz m f l =
    let a = l.upto in
    let b = m.upto in
    let v = m.from (omega arith) in
    let rm = m.back.room in
    let e = next_round (x - 1) in
    let small = next_inside (length t) (next_slot (x - 1)) w (next_inside (length t) (x - 1) w (omega arith)) in
    record {
      upto = omega arith;
      from = λ q. l.hit q ∙ v;
      back = record { room = simp length-set rm; found = λ k h s. go (omega arith) e v k h s (ℕ_discrete k (next_slot (next_slot (x - 1)))) };
    }
  where
    go : next_slot (next_slot (x - 1)) < length reverse → next_slot (next_slot (next_slot (x - 1))) ≡ x - 1 → get_or t (x - 1) 0 ≡ u → (k : ℕ) → k < length t →
        Swept t u y (next_slot k) → Dec (k ≡ next_slot (next_slot (x - 1))) →
        Found t (get_or t (next_slot k) 0) (get_or t k 0) (get_or (set reverse (next_slot (next_slot (x - 1))) r) k 0)
    go small e v k h s (yes q) = rw (q, e, v, get_or-set_same reverse (next_slot (next_slot (x - 1))) r 0 small) f
    go small e v k h s (no q) = rw (get_or-set_other reverse (next_slot (next_slot (x - 1))) k r 0 q) (m.back.found k h (down s))
      where
        other : next_slot k ≢ x - 1
        other z = q (sym (next_round k) ∙ ap (λ (i : ℕ). next_slot (next_slot i)) z)

        down : Swept t u y (next_slot k) → Swept t u x (next_slot k)
        down (inl a) = inl a
        down (inr a) = inr (a.0, two (dec_lt (next_slot k) x))
          where
            two : Dec (next_slot k < x) → x ≤ next_slot k
            two (yes d) = let o = other in absurd (l.miss (next_slot k) a.1 (omega arith) (a.0 ∙ sym v))
            two (no d) = omega arith

-- one corner done
pub entries_next : (t ends : List ℕ) (u : ℕ) → Entries t ends u 0 → Entries t ends (u + 1) (length t)
entries_next t ends u a = record { upto = a.upto; to = a.to; who = λ w p. inl (go w (a.who w p)) }
  where
    go : (w : ℕ) → Swept t u 0 (get_or ends w 0 - 1) → get_or t (get_or ends w 0 - 1) 0 < u + 1
    go w (inl h) = omega arith
    go w (inr h) = let k = h.0 in omega arith

pub found_next : (t reverse : List ℕ) (u : ℕ) → length t % 3 ≡ 0 → FoundTo t reverse u 0 → FoundTo t reverse (u + 1) (length t)
found_next t reverse u w m = record { room = m.room; found = λ k h s. m.found k h (go k h s) }
  where
    go : (k : ℕ) → k < length t → Swept t (u + 1) (length t) (next_slot k) → Swept t u 0 (next_slot k)
    go k h (inl a) = two (ℕ_discrete (get_or t (next_slot k) 0) u)
      where
        two : Dec (get_or t (next_slot k) 0 ≡ u) → Swept t u 0 (next_slot k)
        two (yes e) = inr (e, omega arith)
        two (no n) = inl (omega arith)
    go k h (inr a) = let b = a.1 in let c = next_inside (length t) k w h in absurd (omega arith)

-- the directed edge at e is at no later slot
pub record Single (t : List ℕ) (e : ℕ) : Type 0 where
  pub single : (f : ℕ) → e < f → f < length t → get_or t f 0 ≡ get_or t e 0 → get_or t (next_slot f) 0 ≢ get_or t (next_slot e) 0

pub record Singles (t : List ℕ) (u : ℕ) : Type 0 where
  pub singles : (e : ℕ) → e < length t → get_or t e 0 < u → Single t e

pub singles_next : (t ends : List ℕ) (u : ℕ) → Singles t u → Entered t ends u 0 → Singles t (u + 1)
singles_next t ends u s a = record { singles = λ e h k. go e h k (ℕ_discrete (get_or t e 0) u) }
  where
    go : (e : ℕ) → e < length t → get_or t e 0 < u + 1 → Dec (get_or t e 0 ≡ u) → Single t e
    go e h k (yes q) = record {
      single = λ f i j m z. let b = a.entered e (omega arith) h q in
          let c : get_or ends (get_or t (next_slot e) 0) 0 ≡ f + 1 = ap (λ (x : ℕ). get_or ends x 0) (sym z) ∙ a.entered f (omega arith) j (m ∙ q) in
          omega arith;
    }
    go e h k (no q) = s.singles e h (omega arith)

-- the sweep stands at u
pub record Sweeping (t ends reverse : List ℕ) (u : ℕ) : Type 0 where
  pub entries : Entries t ends u (length t)
  pub back : FoundTo t reverse u (length t)
  pub single : Singles t u

pub sweep_none : (t ends reverse : List ℕ) → length t % 3 ≡ 0 → Blank ends → length t ≤ length reverse → Sweeping t ends reverse 0
sweep_none t ends reverse w b r = record {
  entries = record { upto = λ c. let z = b.blank c in omega arith; to = λ c h. let z = b.blank c in absurd (omega arith); who = λ c h. let z = b.blank c in absurd (omega arith) };
  back = record { room = r; found = λ k h s. go k h s };
  single = record { singles = λ e h k. absurd (omega arith) };
}
  where
    go : (k : ℕ) → k < length t → Swept t 0 (length t) (next_slot k) → Found t (get_or t (next_slot k) 0) (get_or t k 0) (get_or reverse k 0)
    go k h (inl a) = absurd (omega arith)
    go k h (inr a) = let b = a.1 in let c = next_inside (length t) k w h in absurd (omega arith)

pub sweep_more : (t ends reverse ends' reverse' : List ℕ) (u : ℕ) → length t % 3 ≡ 0 → Sweeping t ends reverse u → Entries t ends' u 0 → Entered t ends' u 0 →
    FoundTo t reverse' u 0 → Sweeping t ends' reverse' (u + 1)
sweep_more t ends reverse ends' reverse' u w s a b m = record { entries = entries_next t ends' u a; back = found_next t reverse' u w m; single = singles_next t ends' u s.single b }

pub sweep_once : (t ends reverse : List ℕ) (n u : ℕ) → Whole t → Under t n → n ≤ u → Sweeping t ends reverse u → EdgesOnce (rows t)
sweep_once t ends reverse n u w b h s = differ_places (0 ⇒ 0) (edges (rows t)) (λ i j l k. go i j l (rw (edges_length t w.threes) at k))
  where
    go : (i j : ℕ) → i < j → j < length t → get_or (edges (rows t)) i (0 ⇒ 0) ≢ get_or (edges (rows t)) j (0 ⇒ 0)
    go i j l k e =
        let li : i < length t = omega arith in
        let a : (get_or t i 0 ⇒ get_or t (next_slot i) 0) ≡ (get_or t j 0 ⇒ get_or t (next_slot j) 0) = sym (edges_at t i w.threes li) ∙ e ∙ edges_at t j w.threes k in
        (s.single.singles i li (omega (arith, b.under i li))).single j l k (cc) (cc)
