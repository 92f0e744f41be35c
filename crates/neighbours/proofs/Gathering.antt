-- Walking a corner's chain lists its neighbours: each slot of v has the neighbour that its directed edge leads to, and no two slots the same.
use mathlib.Core.Path.{◌≡◌, refl, sym, ◌∙◌, ap}
use mathlib.Core.Logic.{◌⊎◌, inl, inr}
use mathlib.Core.List.Memᴰ
use mathlib.Core.List.{List, [], ◌∷◌, ◌++◌}
use Prim.Native.Nat.{ℕ, zero, suc, ◌+◌, ◌-◌, ◌≤◌, ◌<◌, ◌%◌}
use native.Mathlib.Decide.{ℕ_discrete, dec_lt}
use native.Mathlib.Numerals.{add-one}
use native.Mathlib.Omega.{arith}
use lib.ListN.{length, get_or, set, take, length-append}
use lib.Seq.{take-suc-set, length-take-le}
use Rattle.surface.specs.Limits.{most_corners}
use Rattle.surface.specs.Lists.{◌∈◌, Distinct, none, more}
use Rattle.surface.specs.Rows.{rows}
use Rattle.surface.specs.Table.{Edge}
use Rattle.surface.specs.InnerStageTable.{StageTable}
use Rattle.surface.proofs.Count.{fits}
use Rattle.surface.proofs.Counted.{distinct_append}
use Rattle.surface.proofs.Following.{re_edge}
use Rattle.surface.proofs.Round.{upto as numbers, every_upto}
use Rattle.slots.specs.Slot.{next_slot}
use Rattle.slots.specs.Chain.{Last}
use Rattle.slots.proofs.Slots.{at_edge, follows_at, next_inside, one_slot}
use Rattle.slots.proofs.Staged.{stage_under}
use Rattle.neighbours.specs.Around.{Neighbours}

-- w is the neighbour of v at the slot e, and e stands from x on
pub record From (t : List ℕ) (v x w : ℕ) : Type 0 where
  pub e : ℕ
  pub passed : x ≤ e
  pub inside : e < length t
  pub is_v : get_or t e 0 ≡ v
  pub leads : get_or t (next_slot e) 0 ≡ w

-- l lists the neighbours of v at its slots from x on; the next slot of the chain is the one before x
pub record Listing (t : List ℕ) (v x : ℕ) (l : List ℕ) : Type 0 where
  pub upto : x ≤ length t
  pub hit : 0 < x → get_or t (x - 1) 0 ≡ v
  pub distinct : Distinct l
  pub only : {w : ℕ} → w ∈ l → From t v x w
  pub all : (e : ℕ) → x ≤ e → e < length t → get_or t e 0 ≡ v → get_or t (next_slot e) 0 ∈ l

numbers_length_lem : (n : ℕ) → length (numbers n) ≡ n
numbers_length_lem zero = refl
numbers_length_lem (suc n) = ap suc (numbers_length_lem n)

pub list_none : (t : List ℕ) (v x : ℕ) → Last t v (length t) x → Listing t v x []
list_none t v x h = record {
  upto = h.upto;
  hit = h.hit;
  distinct = none;
  only = λ m. absurd (Memᴰ.not-nil m);
  all = λ e a b k. absurd (h.miss e a b k);
}

pub whole : {n : ℕ} (t : List ℕ) → StageTable n t → length t % 3 ≡ 0
whole t s = let c = s.count in omega arith

module _ {n : ℕ} (t : List ℕ) (s : StageTable n t) (v : ℕ) where
  -- one slot more
  pub list_more : {l : List ℕ} (x y : ℕ) → 0 < x → Last t (get_or t (x - 1) 0) (x - 1) y → Listing t v x l → Listing t v y (l ++ (get_or t (next_slot (x - 1)) 0 ∷ []))
  list_more {l} x y p h g = record {
    upto = let a = g.upto in let b = h.upto in omega arith;
    hit = λ q. h.hit q ∙ here;
    distinct = distinct_append g.distinct (more Memᴰ.not-nil none) fresh;
    only = λ m. only _ (Memᴰ.append_cases l m);
    all = λ e a b k. all e a b k (ℕ_discrete e (x - 1));
  }
    where
      new : ℕ
      new = get_or t (next_slot (x - 1)) 0

      here : get_or t (x - 1) 0 ≡ v
      here = g.hit p

      inside : x - 1 < length t
      inside = let a = g.upto in omega arith

      fresh : (w : ℕ) → w ∈ l → ¬ (w ∈ new ∷ [])
      fresh w m k =
          let f = g.only m in
          let a = f.passed in
          let same : f.e ≡ x - 1 = one_slot t (whole t s) s.stage.once f.e (x - 1) f.inside inside (f.is_v ∙ sym here) (f.leads ∙ Memᴰ.eq_of_singleton k) in
          omega arith

      only : (w : ℕ) → (w ∈ l) ⊎ (w ∈ new ∷ []) → From t v y w
      only w (inl m) =
          let f = g.only m in
          let a = f.passed in
          let b = h.upto in
          record { e = f.e; passed = omega arith; inside = f.inside; is_v = f.is_v; leads = f.leads }
      only w (inr m) = record { e = x - 1; passed = h.upto; inside = inside; is_v = here; leads = sym (Memᴰ.eq_of_singleton m) }

      all : (e : ℕ) → y ≤ e → e < length t → get_or t e 0 ≡ v → Dec (e ≡ x - 1) → get_or t (next_slot e) 0 ∈ l ++ (new ∷ [])
      all e a b k (yes q) = Memᴰ.append_right l (Memᴰ.head (ap (λ (z : ℕ). get_or t (next_slot z) 0) q))
      all e a b k (no q) = Memᴰ.append_left (new ∷ []) (g.all e (past (dec_lt e x)) b k)
        where
          past : Dec (e < x) → x ≤ e
          past (yes z) = absurd (h.miss e a (omega arith) (k ∙ sym here))
          past (no z) = omega arith

  -- where no slot is left, these are the neighbours
  pub list_end : {l : List ℕ} → Listing t v 0 l → Neighbours (rows t) v l
  list_end g = record {
    distinct = g.distinct;
    all = λ h. let a = follows_at t (whole t s) h.1 in rw (sym a.is_p) (g.all a.e (omega arith) a.inside a.is_v);
    only = λ {w} m. is_edge w (g.only m);
  }
    where
      is_edge : (w : ℕ) → From t v 0 w → Edge (rows t) v w
      is_edge w f = re_edge f.is_v f.leads (at_edge t (whole t s) f.e f.inside)

  -- there are no more of them than corners
  pub list_fits_lem : {l : List ℕ} {x : ℕ} → Listing t v x l → length l ≤ n
  list_fits_lem {l} {x} g = let h = fits g.distinct (numbers n) (λ w m. every_upto n w (below w (g.only m))) in let k = numbers_length_lem n in omega arith
    where
      below : (w : ℕ) → From t v x w → w < n
      below w f = rw (sym f.leads) ((stage_under t (whole t s) s.stage).under (next_slot f.e) (next_inside (length t) f.e (whole t s) f.inside))

-- the same in a lent ring, of which the first k numbers are the list
module _ {n : ℕ} (t : List ℕ) (s : StageTable n t) (v : ℕ) (ring : List ℕ) (k x y : ℕ) (p : 0 < x) (h : Last t (get_or t (x - 1) 0) (x - 1) y) (g : Listing t v x (take k ring)) where
  -- there is room for one more
  pub ring_room : k ≤ length ring → most_corners ≤ length ring → k < length ring
  ring_room r m =
      let a = list_fits_lem t s v (list_more t s v x y p h g) in
      let b = length-append (take k ring) (get_or t (next_slot (x - 1)) 0 ∷ []) in
      let c = length-take-le k ring r in
      let d = s.stage.many in
      omega arith

  pub ring_more : k < length ring → Listing t v y (take (k + 1) (set ring k (get_or t (next_slot (x - 1)) 0)))
  ring_more r = rw (add-one, take-suc-set ring k (get_or t (next_slot (x - 1)) 0) r) (list_more t s v x y p h g)
