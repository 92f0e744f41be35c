-- Along a chain: one step of looking for an edge, and for the link above a slot.
use mathlib.Core.Path.{◌≡◌, sym}
use mathlib.Core.Logic.{◌≢◌}
use mathlib.Core.List.{List}
use Prim.Native.Nat.{ℕ, zero, suc, ◌+◌, ◌-◌, ◌≤◌, ◌<◌, ◌%◌}
use native.Mathlib.Decide.{dec_lt, ℕ_discrete}
use native.Mathlib.Omega.{arith}
use lib.ListN.{length, get_or}
use Rattle.surface.specs.Rows.{rows, flat}
use Rattle.surface.specs.Table.{Edge}
use Rattle.surface.proofs.Flat.{flat_rows}
use Rattle.slots.specs.Slot.{next_slot}
use Rattle.slots.specs.Chain.{Last}
use Rattle.slots.proofs.Slots.{follows_at, at_follows, whole_rows}
use Rattle.edges.specs.Sweep.{Found}
use Rattle.chart.specs.Links.{Link, top}
use Rattle.chart.specs.Chart.{InChains, Above}

-- the slots of a from x on do not have the edge to b; x is one more than a slot of a, or 0
pub record Looked (t : List ℕ) (a b x : ℕ) : Type 0 where
  pub upto : x ≤ length t
  pub hit : 0 < x → get_or t (x - 1) 0 ≡ a
  pub miss : (e : ℕ) → x ≤ e → e < length t → get_or t e 0 ≡ a → get_or t (next_slot e) 0 ≢ b

module _ (t : List ℕ) (a b : ℕ) where
  pub look_more : (x y : ℕ) → 0 < x → Looked t a b x → Last t a (x - 1) y → get_or t (next_slot (x - 1)) 0 ≢ b → Looked t a b y
  look_more x y p k l n = record {
    upto = let u = l.upto in let v = k.upto in omega arith;
    hit = l.hit;
    miss = λ e h i q. go e h i q (dec_lt e (x - 1)) (ℕ_discrete e (x - 1));
  }
    where
      go : (e : ℕ) → y ≤ e → e < length t → get_or t e 0 ≡ a → Dec (e < x - 1) → Dec (e ≡ x - 1) → get_or t (next_slot e) 0 ≢ b
      go e h i q (yes s) d = absurd (l.miss e h s q)
      go e h i q (no s) (yes d) = rw d n
      go e h i q (no s) (no d) = k.miss e (omega arith) i q

-- the corners of the edge at the slot where it is found
module _ {t : List ℕ} {a b e : ℕ} (f : Found t a b (suc e)) where
  before : suc e - 1 ≡ e
  before = omega arith

  pub found_from : get_or t e 0 ≡ a
  found_from = rw before at (f.from (omega arith))

  pub found_to : get_or t (next_slot e) 0 ≡ b
  found_to = rw before at (f.to (omega arith))

-- the rows have the edge where it is found, and not where it is not
module _ (t : List ℕ) (w : length t % 3 ≡ 0) (a b : ℕ) where
  pub none_found : Found t a b 0 → ¬ Edge (rows t) a b
  none_found f g = let s = follows_at t w g.1 in f.miss s.e (omega arith) s.inside s.is_v s.is_p

  pub found_edge : (e : ℕ) → Found t a b (suc e) → Edge (rows t) a b
  found_edge e f = (get_or t (next_slot (next_slot e)) 0, rw (found_from f, found_to f) at (at_follows t w e (let u = f.upto in omega arith)))

-- on the way down the chain of u to the slot e: x is a link above it, and y hangs on x
pub record Walked (t : List ℕ) (u e x y : ℕ) : Type 0 where
  pub link : Link t u x
  pub over : e < top t x
  pub hangs : Last t u (top t x) y
  pub upto : y ≤ length t

module _ (t : List ℕ) (u e : ℕ) where
  pub walk_none : (y : ℕ) → e < length t → Last t u (length t) y → Walked t u e 0 y
  unfolding Link top
  walk_none y h l = record { link = _; over = h; hangs = l; upto = l.upto }

  pub walk_more : (x y z : ℕ) → Walked t u e x y → e + 1 < y → Last t u (y - 1) z → Walked t u e y z
  unfolding Link top
  walk_more x zero z k h l = absurd (omega arith)
  walk_more x (suc f) z k h l =
      let s : suc f - 1 ≡ f = omega arith in
      let up = k.upto in
      let m : Last t u f z = rw s at l in
      let n = m.upto in
      record { link = (omega arith, rw s at (k.hangs.hit (omega arith))); over = omega arith; hangs = m; upto = omega arith }

  pub walk_end : (x y : ℕ) → Walked t u e x y → y ≤ e + 1 → Above t u e x
  walk_end x y k h = record { link = k.link; over = k.over; none = λ f i j. k.hangs.miss f (omega arith) j }

-- a table of whole rows is its rows' numbers
pub chained_flat : {t last prev : List ℕ} → InChains t last prev → t ≡ flat (rows t)
chained_flat {t} k = sym (flat_rows (length (rows t)) t (sym (whole_rows t k.whole.threes)))
