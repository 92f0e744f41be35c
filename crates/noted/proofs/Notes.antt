-- The rows round a corner, noted a slot at a time; and what a note says of neighbours.
use mathlib.Core.Path.{◌≡◌, refl, sym, ◌∙◌, ap}
use mathlib.Core.Logic.{◌≢◌}
use mathlib.Core.List.{List}
use Prim.Native.Nat.{ℕ, ◌+◌, ◌-◌, ◌≤◌, ◌<◌}
use native.Mathlib.Decide.{ℕ_discrete}
use native.Mathlib.Omega.{arith}
use lib.ListN.{length, get_or, set, length-set}
use lib.Seq.{get_or-set_same, get_or-set_other}
use Rattle.surface.specs.Rows.{rows}
use Rattle.surface.specs.Table.{Edge}
use Rattle.slots.specs.Slot.{next_slot, Whole, Under}
use Rattle.slots.specs.Marks.{Blank}
use Rattle.slots.proofs.Slots.{next_inside, follows_at, at_edge}
use Rattle.noted.specs.Noted.{Noted, NotedTo, Round, IsNoted}

-- noting a slot at a time
pub note_none : (t : List ℕ) (a : ℕ) (at : List ℕ) → Blank at → NotedTo t a 0 at
note_none t a at b = record {
  noted = λ p h. let k = b.blank p in record { upto = omega arith; hit = λ l. absurd (omega arith); miss = λ z e l. absurd (omega arith) };
}

module _ (t : List ℕ) (a i : ℕ) (at : List ℕ) (k : NotedTo t a i at) where
  -- a slot that does not hold a
  pub note_other : get_or t i 0 ≢ a → NotedTo t a (i + 1) at
  note_other n = record { noted = λ p h. let l = k.noted p h in let u = l.upto in record { upto = omega arith; hit = l.hit; miss = λ z e q s. go p (l.miss z) e q s (ℕ_discrete e i) } }
    where
      go : (p : ℕ) → ((e : ℕ) → e < i → get_or t e 0 ≡ a → get_or t (next_slot e) 0 ≢ p) → (e : ℕ) → e < i + 1 → get_or t e 0 ≡ a → Dec (e ≡ i) → get_or t (next_slot e) 0 ≢ p
      go p m e q s (yes z) = absurd (n (ap (λ (j : ℕ). get_or t j 0) (sym z) ∙ s))
      go p m e q s (no z) = m e (omega arith) s

  -- a slot that holds it
  pub note_more : get_or t i 0 ≡ a → get_or t (next_slot i) 0 < length at → NotedTo t a (i + 1) (set at (get_or t (next_slot i) 0) (i + 1))
  note_more is small = record { noted = λ p h. go p (rw length-set at h) (ℕ_discrete p (get_or t (next_slot i) 0)) }
    where
      go : (p : ℕ) → p < length at → Dec (p ≡ get_or t (next_slot i) 0) → Noted t a (i + 1) p (get_or (set at (get_or t (next_slot i) 0) (i + 1)) p 0)
      go p h (yes e) = rw (e, get_or-set_same at (get_or t (next_slot i) 0) (i + 1) 0 small) (record {
        upto = omega arith;
        hit = λ l. let z : i + 1 - 1 ≡ i = omega arith in rw z (is, refl);
        miss = λ z. absurd (omega arith);
      })
      go p h (no e) = rw (get_or-set_other at (get_or t (next_slot i) 0) p (i + 1) 0 e) (let l = k.noted p h in let u = l.upto in record { upto = omega arith; hit = l.hit; miss = λ z f q s. old l z f q s (ℕ_discrete f i) })
        where
          old : Noted t a i p (get_or at p 0) → get_or at p 0 ≡ 0 → (f : ℕ) → f < i + 1 → get_or t f 0 ≡ a → Dec (f ≡ i) → get_or t (next_slot f) 0 ≢ p
          old l z f q s (yes g) = λ w. e (sym w ∙ ap (λ (j : ℕ). get_or t (next_slot j) 0) g)
          old l z f q s (no g) = l.miss z f (omega arith) s

pub note_end : (t : List ℕ) (a i : ℕ) (at : List ℕ) → length t ≤ i → i ≤ length t → NotedTo t a i at → Round t a at
note_end t a i at h k n = let e : i ≡ length t = omega arith in rw e at n

-- a noted corner is a neighbour, and every neighbour is noted
module _ (t : List ℕ) (w : Whole t) (a : ℕ) (at : List ℕ) (under : Under t (length at)) (r : Round t a at) where
  pub near_edge : {p : ℕ} → IsNoted at p → Edge (rows t) a p
  near_edge {p} n =
      let l = r.noted p n.inside in
      let u = l.upto in
      let m : 0 < get_or at p 0 = pos (get_or at p 0) n.noted in
      let h = l.hit m in
      rw h.0 at (rw h.1 at (at_edge t w.threes (get_or at p 0 - 1) (omega arith)))
    where
      pos : (x : ℕ) → x ≢ 0 → 0 < x
      pos x n = omega arith

  pub edge_near : {p : ℕ} → Edge (rows t) a p → IsNoted at p
  edge_near {p} g =
      let s = follows_at t w.threes g.1 in
      let h : get_or t (next_slot s.e) 0 < length at = under.under (next_slot s.e) (next_inside (length t) s.e w.threes s.inside) in
      let k : p < length at = rw s.is_p at h in
      record { inside = k; noted = λ z. (r.noted p k).miss z s.e s.inside s.is_v s.is_p }
