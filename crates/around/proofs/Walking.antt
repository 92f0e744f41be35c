-- The walk along the list of a corner in the first table.
use mathlib.Core.Path.{◌≡◌, refl, sym, ◌∙◌, ap}
use mathlib.Core.Logic.{◌≢◌, ◌⊎◌, inl, inr}
use mathlib.Core.Bool.{Bool, true, false, not}
use mathlib.Core.List.Memᴰ
use mathlib.Core.List.{List, [], ◌∷◌, ◌++◌, map-append}
use Prim.Native.Nat.{ℕ, ◌+◌, ◌-◌, ◌*◌, ◌≤◌, ◌<◌}
use native.Mathlib.Decide.{ℕ_discrete}
use native.Mathlib.Omega.{arith}
use native.Mathlib.Numerals.{add-one}
use lib.ListN.{length, get_or, set, take, drop, length-append, length-set}
use lib.Seq.{take-suc-set, take-set-le, length-take-le}
use Rattle.std.specs.Int.{from_bool}
use Rattle.std.specs.Prelude.{nat_eq}
use Rattle.std.proofs.lemmas.Bool.Decides.{nat_tests}
use Rattle.std.proofs.lemmas.List.{get_or-drop, get_or-take, length-take}
use Rattle.surface.specs.Limits.{most_rows, most_corners}
use Rattle.surface.specs.Lists.{◌∈◌, Distinct, none, more, Exactly}
use Rattle.surface.proofs.Count.{fits, length-map}
use Rattle.surface.proofs.Counted.{distinct_append}
use Rattle.slots.specs.Slot.{next_slot, most_slots}
use Rattle.slots.proofs.Slots.{next_inside}
use Rattle.spots.specs.InnerHeld.{flat_of, wide, wides, HoldsSomeStage}
use Rattle.spots.specs.InnerLists.{Mapped}
use Rattle.spots.proofs.Held.{wide_inside, wide_one, after_at}
use Rattle.spots.proofs.Live.{slot_below, clean_back, slot_one}
use Rattle.around.specs.InnerRing.{next_to, MarkedIn, WalkedRound}
use Rattle.around.proofs.Nears.{nears, nears_out, next_to_wides}

-- r is one where x is y, else nought
abbrev SameBit : ℕ → ℕ → ℕ → Type 0
SameBit x y r = ((x ≡ y) × (r ≡ 1)) ⊎ ((x ≢ y) × (r ≡ 0))

pub same_bit : (x y : ℕ) → SameBit x y (from_bool (nat_eq x y))
same_bit x y = go (ℕ_discrete x y)
  where
    go : Dec (x ≡ y) → SameBit x y (from_bool (nat_eq x y))
    go (yes e) = inl (e, let q : nat_eq x y ≡ true = grind (arith, nat_tests) in ap from_bool q)
    go (no e) = inr (e, let q : nat_eq x y ≡ false = grind (arith, nat_tests) in ap from_bool q)

-- r is nought where x is y, else one
abbrev DifferBit : ℕ → ℕ → ℕ → Type 0
DifferBit x y r = ((x ≡ y) × (r ≡ 0)) ⊎ ((x ≢ y) × (r ≡ 1))

differ_bit : {x y r : ℕ} → r ≡ from_bool (not (nat_eq x y)) → DifferBit x y r
differ_bit {x} {y} is = rw is (go (ℕ_discrete x y))
  where
    go : Dec (x ≡ y) → DifferBit x y (from_bool (not (nat_eq x y)))
    go (yes e) = inl (e, let q : nat_eq x y ≡ true = grind (arith, nat_tests) in ap (λ (b : Bool). from_bool (not b)) q)
    go (no e) = inr (e, let q : nat_eq x y ≡ false = grind (arith, nat_tests) in ap (λ (b : Bool). from_bool (not b)) q)

-- a list with one number more
one_on : {l : List ℕ} {x : ℕ} → Distinct l → ¬ (x ∈ l) → Distinct (l ++ (x ∷ []))
one_on d n = distinct_append d (more Memᴰ.not-nil none) (λ w m k. n (rw (Memᴰ.eq_of_singleton k) at m))

module _ (m : List ℕ) (stamp : ℕ) (l : List ℕ) (w : ℕ) {c : ℕ} (g : Exactly (MarkedIn m stamp l) c) where
  -- is counted if it is marked
  marked_more : ¬ (w ∈ l) → get_or m w 0 ≡ stamp → Exactly (MarkedIn m stamp (l ++ (w ∷ []))) (c + 1)
  marked_more n e = record {
    list = g.list ++ (w ∷ []);
    distinct = one_on g.distinct (λ k. n (g.only k).0);
    all = λ {a} z. all a z.1 (Memᴰ.append_cases l z.0);
    only = λ {a} k. only a (Memᴰ.append_cases g.list k);
    count = length-append g.list (w ∷ []) ∙ ap (λ (z : ℕ). z + 1) g.count;
  }
    where
      all : (a : ℕ) → get_or m a 0 ≡ stamp → (a ∈ l) ⊎ (a ∈ w ∷ []) → a ∈ g.list ++ (w ∷ [])
      all a z (inl k) = Memᴰ.append_left (w ∷ []) (g.all (k, z))
      all a z (inr k) = Memᴰ.append_right g.list k

      only : (a : ℕ) → (a ∈ g.list) ⊎ (a ∈ w ∷ []) → MarkedIn m stamp (l ++ (w ∷ [])) a
      only a (inl k) = let z = g.only k in (Memᴰ.append_left (w ∷ []) z.0, z.1)
      only a (inr k) = (Memᴰ.append_right l k, rw (Memᴰ.eq_of_singleton k) e)

  marked_past : get_or m w 0 ≢ stamp → Exactly (MarkedIn m stamp (l ++ (w ∷ []))) c
  marked_past n = record {
    list = g.list;
    distinct = g.distinct;
    all = λ {a} z. all a z.1 (Memᴰ.append_cases l z.0);
    only = λ {a} k. let z = g.only k in (Memᴰ.append_left (w ∷ []) z.0, z.1);
    count = g.count;
  }
    where
      all : (a : ℕ) → get_or m a 0 ≡ stamp → (a ∈ l) ⊎ (a ∈ w ∷ []) → a ∈ g.list
      all a z (inl k) = g.all (k, z)
      all a z (inr k) = absurd (n (rw (Memᴰ.eq_of_singleton k) at z))

-- of the slots of v, those that are listed before i are in front of ring, and c of the corners next to them are marked
pub record Walking (h start list mark : List ℕ) (v stamp i k c : ℕ) (ring : List ℕ) : Type 0 where
  pub mapped : Mapped h start list v
  pub upto : i ≤ get_or start (v + 1) 0
  pub few : k + get_or start v 0 ≤ i
  pub fits : k ≤ length ring
  pub slots : List ℕ
  pub are : take k ring ≡ wides slots
  pub only : {e : ℕ} → e ∈ slots → (e < length (flat_of h)) × (get_or (flat_of h) e 0 ≡ v) × (mapped.lists.place e < i)
  pub all : (e : ℕ) → e < length (flat_of h) → get_or (flat_of h) e 0 ≡ v → mapped.lists.place e < i → e ∈ slots
  pub distinct : Distinct slots
  pub counted : Exactly (MarkedIn mark stamp (nears (flat_of h) slots)) c

pub walk_start : {h start list : List ℕ} (mark : List ℕ) {v : ℕ} (stamp : ℕ) (ring : List ℕ) → Mapped h start list v → v < most_corners → Walking h start list mark v stamp (get_or start v 0) 0 0 ring
walk_start mark {v} stamp ring p l = record {
  mapped = p;
  upto = p.lists.ordered v l;
  few = omega arith;
  fits = omega arith;
  slots = [];
  are = refl;
  only = λ m. absurd (Memᴰ.not-nil m);
  all = λ e a b k. let q = p.same in let i : e < length p.first = omega arith in let z = (p.lists.among v e i (p.was e i b)).0 in absurd (omega arith);
  distinct = none;
  counted = record { list = []; distinct = none; all = λ z. absurd (Memᴰ.not-nil z.0); only = λ m. absurd (Memᴰ.not-nil m); count = refl };
}

-- the places of v's list are inside
pub walk_places : {h start list : List ℕ} {v : ℕ} → Mapped h start list v → v < most_corners → (v + 1 < length start) × (get_or start (v + 1) 0 ≤ length list)
walk_places {v = v} p l = let a = p.lists.corners in let b = p.lists.within v l in let d = p.lists.room in (omega arith, omega arith)

-- a part of the list, place by place
pub listed_at : (l : List ℕ) (from to j : ℕ) → j < length (take (to - from) (drop from l)) → (from + j < to) × (get_or (take (to - from) (drop from l)) j 0 ≡ get_or l (from + j) 0)
listed_at l from to j h =
    let i : j < to - from = omega (arith, length-take (to - from) (drop from l)) in
    (omega arith, get_or-take (to - from) (drop from l) j 0 i ∙ get_or-drop from l j 0)

module _ {h start list mark : List ℕ} {v stamp i k c : ℕ} {ring : List ℕ} (g : Walking h start list mark v stamp i k c ring) (more_left : i < get_or start (v + 1) 0) (s : HoldsSomeStage h) (small : v < most_corners) where
  abbrev t : List ℕ
  t = flat_of h

  -- the slot that is listed there
  slot : (e : ℕ) × (e < length g.mapped.first) × (get_or g.mapped.first e 0 ≡ v) × (g.mapped.lists.place e ≡ i)
  slot = g.mapped.lists.only v i small (let f = g.few in omega arith) more_left

  abbrev e : ℕ
  e = slot.0

  here : get_or list i 0 ≡ wide e
  here = rw slot.3 at (g.mapped.lists.listed e slot.1)

  inside : e < length (flat_of h)
  inside = let a = slot.1 in let q = g.mapped.same in omega arith

  -- no other slot is listed there
  one_here : (f : ℕ) → f < length (flat_of h) → g.mapped.lists.place f ≡ i → f ≡ e
  one_here f l q = let a = g.mapped.same in wide_one (sym (rw q at (g.mapped.lists.listed f (omega arith))) ∙ here)

  pub place_held : get_or list i 0 < length h
  place_held = rw here (wide_inside h s.held.fours inside)

  pub place_small : get_or list i 0 < 4 * most_rows
  place_small = let m = s.held.slotted.whole.most in let i = inside in let q = here in omega arith

  pub list_short : get_or start (v + 1) 0 ≤ most_slots
  list_short = let a = g.mapped.lists.within v small in let q = g.mapped.same in let m = s.held.slotted.whole.most in omega arith

  pub ring_room : most_slots ≤ length ring → k < length ring
  ring_room r = let f = g.few in let l = list_short in omega arith

  after : get_or h (get_or list i 0) 0 ≡ get_or t (next_slot e) 0
  after = rw here (sym (after_at h s.held.fours e inside))

  next_in : next_slot e < length t
  next_in = next_inside (length t) e s.held.slotted.whole.threes inside

  pub number_most : get_or h (get_or list i 0) 0 ≤ most_corners
  number_most = rw after (slot_below t s.held.slotted (next_slot e) next_in)

  -- the slot stands just where the number after it is a corner's
  stands_if : get_or h (get_or list i 0) 0 ≢ most_corners → get_or t e 0 ≡ v
  stands_if n = go (g.mapped.still e slot.1 slot.2)
    where
      go : (get_or t e 0 ≡ v) ⊎ (get_or t e 0 ≡ most_corners) → get_or t e 0 ≡ v
      go (inl q) = q
      go (inr q) = absurd (n (after ∙ s.held.slotted.clean e inside q))

  stands_not : get_or h (get_or list i 0) 0 ≡ most_corners → get_or t e 0 ≢ v
  stands_not n q = let z = clean_back t s.held.slotted e inside (sym after ∙ n) in omega arith

  module _ (room : most_slots ≤ length ring) where
    abbrev ring' : List ℕ
    ring' = set ring k (get_or list i 0)

    kept : take k (set ring k (get_or list i 0)) ≡ wides g.slots
    kept = take-set-le k ring k (get_or list i 0) (omega arith) ∙ g.are

    -- a row that has left is passed
    past : get_or h (get_or list i 0) 0 ≡ most_corners → Walking h start list mark v stamp (i + 1) k c ring'
    past left = record {
      mapped = g.mapped;
      upto = omega arith;
      few = let f = g.few in omega arith;
      fits = rw (length-set ring k (get_or list i 0)) g.fits;
      slots = g.slots;
      are = kept;
      only = λ m. let o = g.only m in let l = o.2 in (o.0, o.1, omega arith);
      all = λ f a b l. all f a b l (ℕ_discrete (g.mapped.lists.place f) i);
      distinct = g.distinct;
      counted = g.counted;
    }
      where
        all : (f : ℕ) → f < length t → get_or t f 0 ≡ v → g.mapped.lists.place f < i + 1 → Dec (g.mapped.lists.place f ≡ i) → f ∈ g.slots
        all f a b l (yes q) = absurd (stands_not left (rw (one_here f a q) at b))
        all f a b l (no q) = g.all f a b (omega arith)

    module _ (stays : get_or h (get_or list i 0) 0 ≢ most_corners) where
      new : ¬ (e ∈ g.slots)
      new m = let o = (g.only m).2 in let q = slot.3 in omega arith

      only' : (f : ℕ) → (f ∈ g.slots) ⊎ (f ∈ e ∷ []) → (f < length t) × (get_or t f 0 ≡ v) × (g.mapped.lists.place f < i + 1)
      only' f (inl m) = let o = g.only m in let l = o.2 in (o.0, o.1, omega arith)
      only' f (inr m) = rw (Memᴰ.eq_of_singleton m) (inside, stands_if stays, let q = slot.3 in omega arith)

      all' : (f : ℕ) → f < length t → get_or t f 0 ≡ v → g.mapped.lists.place f < i + 1 → Dec (g.mapped.lists.place f ≡ i) → f ∈ g.slots ++ (e ∷ [])
      all' f a b l (yes q) = Memᴰ.append_right g.slots (Memᴰ.head (one_here f a q))
      all' f a b l (no q) = Memᴰ.append_left (e ∷ []) (g.all f a b (omega arith))

      are' : take (k + 1) (set ring k (get_or list i 0)) ≡ wides (g.slots ++ (e ∷ []))
      are' =
          rw (add-one k) (take-suc-set ring k (get_or list i 0) (ring_room room))
          ∙ (λ j. g.are j ++ (here j ∷ []))
          ∙ sym (map-append (λ (z : ℕ). wide z) g.slots (e ∷ []))

      nears' : nears t (g.slots ++ (e ∷ [])) ≡ nears t g.slots ++ (get_or h (get_or list i 0) 0 ∷ [])
      nears' = map-append (λ (z : ℕ). get_or t (next_slot z) 0) g.slots (e ∷ []) ∙ ap (λ (z : ℕ). nears t g.slots ++ (z ∷ [])) (sym after)

      -- no corner is next to two slots
      fresh : ¬ (get_or h (get_or list i 0) 0 ∈ nears t g.slots)
      fresh m = go (nears_out t g.slots m)
        where
          go : ((f : ℕ) × (f ∈ g.slots) × (get_or t (next_slot f) 0 ≡ get_or h (get_or list i 0) 0)) → ⊥
          go z =
              let o = g.only z.1 in
              let q = stands_if stays in
              let k : get_or t z.0 0 ≢ most_corners = λ w. (let a = o.1 in omega arith) in
              new (rw (slot_one t s.held.slotted z.0 e o.0 inside k (o.1 ∙ sym q) (z.2 ∙ after)) at z.1)

      -- a row that stands is listed
      listed : {c' : ℕ} → Exactly (MarkedIn mark stamp (nears t g.slots ++ (get_or h (get_or list i 0) 0 ∷ []))) c' → Walking h start list mark v stamp (i + 1) (k + 1) c' ring'
      listed count = record {
        mapped = g.mapped;
        upto = omega arith;
        few = let f = g.few in omega arith;
        fits = let r = ring_room room in rw (length-set ring k (get_or list i 0)) (omega arith);
        slots = g.slots ++ (e ∷ []);
        are = are';
        only = λ {e = f} m. only' f (Memᴰ.append_cases g.slots m);
        all = λ f a b l. all' f a b l (ℕ_discrete (g.mapped.lists.place f) i);
        distinct = one_on g.distinct new;
        counted = rw nears' count;
      }

    pub walk_more : get_or mark most_corners 0 ≢ stamp → {r q : ℕ} → r ≡ from_bool (not (nat_eq (get_or h (get_or list i 0) 0) most_corners)) → q ≡ from_bool (nat_eq (get_or mark (get_or h (get_or list i 0) 0) 0) stamp) → Walking h start list mark v stamp (i + 1) (k + r) (c + q) ring'
    walk_more n {r} {q} a b = go (differ_bit a) (rw b (same_bit _ stamp))
      where
        go : DifferBit (get_or h (get_or list i 0) 0) most_corners r → SameBit (get_or mark (get_or h (get_or list i 0) 0) 0) stamp q → Walking h start list mark v stamp (i + 1) (k + r) (c + q) ring'
        go (inl z) (inl y) = absurd (n (rw z.0 at y.0))
        go (inl z) (inr y) = let a = z.1 in let b = y.1 in let e₁ : k + r ≡ k = omega arith in let e₂ : c + q ≡ c = omega arith in rw (e₁, e₂) (past z.0)
        go (inr z) (inl y) = let a = z.1 in let b = y.1 in let e₁ : k + r ≡ k + 1 = omega arith in let e₂ : c + q ≡ c + 1 = omega arith in rw (e₁, e₂) (listed z.0 (marked_more mark stamp (nears t g.slots) _ g.counted (fresh z.0) y.0))
        go (inr z) (inr y) = let a = z.1 in let b = y.1 in let e₁ : k + r ≡ k + 1 = omega arith in let e₂ : c + q ≡ c = omega arith in rw (e₁, e₂) (listed z.0 (marked_past mark stamp (nears t g.slots) _ g.counted y.0))

pub walk_end : {h start list mark : List ℕ} {v stamp i k c : ℕ} {ring : List ℕ} → HoldsSomeStage h → Walking h start list mark v stamp i k c ring → get_or start (v + 1) 0 ≤ i → WalkedRound h v mark stamp ring k c
walk_end {h} {start} {v = v} {i = i} {k} {ring = ring} s g z = record {
  fits = g.fits;
  rings = record {
    slots = g.slots;
    are = g.are;
    lists = record { all = λ e a b. all e a b; only = λ {e} m. let o = g.only m in (o.0, o.1); distinct = g.distinct };
  };
  marked =
      let e : next_to h (take k ring) ≡ nears (flat_of h) g.slots = ap (next_to h) g.are ∙ next_to_wides h s.held.fours g.slots (λ e m. (g.only m).0) in
      rw e g.counted;
}
  where
    all : (e : ℕ) → e < length (flat_of h) → get_or (flat_of h) e 0 ≡ v → e ∈ g.slots
    all e a b = let q = g.mapped.same in let l : e < length g.mapped.first = omega arith in let m = (g.mapped.lists.among v e l (g.mapped.was e l b)).1 in g.all e a b (omega arith)

-- no more corners are marked than listed
pub few_marked : {h start list mark : List ℕ} {v stamp i k c : ℕ} {ring : List ℕ} → Walking h start list mark v stamp i k c ring → (c ≤ k) × (k ≤ i)
few_marked {h} {k = k} {ring = ring} g =
    let a = fits g.counted.distinct (nears (flat_of h) g.slots) (λ w m. (g.counted.only m).0) in
    let b = g.counted.count in
    let d = length-map (λ (e : ℕ). get_or (flat_of h) (next_slot e) 0) g.slots in
    let e = ap length g.are in
    let f = length-map (λ (e : ℕ). wide e) g.slots in
    let l = length-take-le k ring g.fits in
    let m = g.few in
    (omega arith, omega arith)
