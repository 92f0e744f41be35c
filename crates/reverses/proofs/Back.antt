-- What the reverses tell: 8, and the way round a corner.
use mathlib.Core.Path.{◌≡◌, ◌∙◌, ap}
use mathlib.Core.List.{List}
use Prim.Native.Nat.{ℕ, ◌+◌, ◌-◌, ◌≤◌, ◌<◌}
use native.Mathlib.Decide.{ℕ_discrete}
use native.Mathlib.Omega.{arith}
use lib.ListN.{length, get_or, set, length-set}
use lib.Seq.{get_or-set_same, get_or-set_other}
use Rattle.surface.specs.Rows.{rows}
use Rattle.surface.specs.Table.{Follows}
use Rattle.faults.specs.Words.{NoReverse, BothWays}
use Rattle.slots.specs.Slot.{next_slot, Whole}
use Rattle.slots.proofs.Slots.{next_inside, next_round, follows_at, at_follows, at_edge}
use Rattle.reverses.specs.Reverse.{Reverse, Reverses, onward_slot, Onward}
use Rattle.edges.specs.Sweep.{Found}

module _ (t : List ℕ) (w : Whole t) where
  -- no slot is found
  pub no_reverse_at : (e x : ℕ) → e < length t → Found t (get_or t (next_slot e) 0) (get_or t e 0) x → x ≡ 0 → NoReverse (rows t)
  no_reverse_at e x h f k = record {
    p = get_or t e 0;
    q = get_or t (next_slot e) 0;
    goes = at_edge t w.threes e h;
    back = λ b. let a = follows_at t w.threes b.1 in f.miss a.e (omega arith) a.inside a.is_v a.is_p;
  }

  pub reverse_at : (e x : ℕ) → Found t (get_or t (next_slot e) 0) (get_or t e 0) x → (x ≡ 0 → ⊥) → Reverse t e (x - 1)
  reverse_at e x f k = let u = f.upto in record { inside = omega arith; from = f.from (omega arith); to = f.to (omega arith) }

  pub both_ways : ((e : ℕ) → e < length t → (f : ℕ) × Reverse t e f) → BothWays (rows t)
  both_ways h p q g =
      let a = follows_at t w.threes g.1 in
      let r = h a.e a.inside in
      rw (r.1.from ∙ a.is_p, r.1.to ∙ a.is_v) at (at_edge t w.threes r.0 r.1.inside)

-- the reverses before e stand by their slots
pub record Settling (t reverse : List ℕ) (e : ℕ) : Type 0 where
  pub room : length t ≤ length reverse
  pub settled : (k : ℕ) → k < e → Reverse t k (get_or reverse k 0)
  pub found : (k : ℕ) → e ≤ k → k < length t → Found t (get_or t (next_slot k) 0) (get_or t k 0) (get_or reverse k 0)

pub settle_more : (t reverse : List ℕ) (e : ℕ) → Whole t → e < length t → (get_or reverse e 0 ≡ 0 → ⊥) → Settling t reverse e →
    Settling t (set reverse e (get_or reverse e 0 - 1)) (e + 1)
settle_more t reverse e w h n p =
    let r = p.room in
    record {
      room = simp length-set r;
      settled = λ k a. go k a (ℕ_discrete k e) (omega arith);
      found = λ k a b. rw (get_or-set_other reverse e k (get_or reverse e 0 - 1) 0 (λ q. omega arith)) (p.found k (omega arith) b);
    }
  where
    go : (k : ℕ) → k < e + 1 → Dec (k ≡ e) → e < length reverse → Reverse t k (get_or (set reverse e (get_or reverse e 0 - 1)) k 0)
    go k a (yes q) r = rw (q, get_or-set_same reverse e (get_or reverse e 0 - 1) 0 r) (reverse_at t w e (get_or reverse e 0) (p.found e (omega arith) h) n)
    go k a (no q) r = rw (get_or-set_other reverse e k (get_or reverse e 0 - 1) 0 q) (p.settled k (omega arith))

-- what comes next round the corner at e
module _ (t reverse : List ℕ) (w : Whole t) (r : Reverses t reverse) where
  pub onward_at : (e : ℕ) → e < length t → Onward t e (onward_slot reverse e)
  unfolding onward_slot
  onward_at e h =
      let v = r.reverses (next_slot (next_slot e)) (next_inside (length t) (next_slot e) w.threes (next_inside (length t) e w.threes h)) in
      record { inside = v.inside; same = v.from ∙ ap (λ (z : ℕ). get_or t z 0) (next_round e); third = v.to }

  -- round its corner, the neighbour at e is followed by the neighbour at the slot onward
  pub onward_follows : (e : ℕ) → e < length t → Follows (rows t) (get_or t e 0) (get_or t (next_slot e) 0) (get_or t (next_slot (onward_slot reverse e)) 0)
  onward_follows e h = rw (onward_at e h).third (at_follows t w.threes e h)
