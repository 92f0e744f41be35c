-- The corners next to a corner's slots are its neighbours, each once.
use mathlib.Core.Path.{◌≡◌, refl, sym, ◌∙◌, ap, ap₂}
use mathlib.Core.Logic.{◌≢◌, ◌⊎◌, inl, inr}
use mathlib.Core.List.Memᴰ
use mathlib.Core.List.{List, [], ◌∷◌, map}
use Prim.Native.Nat.{ℕ, zero, suc, ◌<◌, ◌%◌}
use native.Mathlib.Omega.{arith}
use lib.ListN.{length, get_or}
use Rattle.surface.specs.Limits.{most_corners}
use Rattle.surface.specs.Lists.{◌∈◌, Distinct, none, more}
use Rattle.surface.specs.Table.{Edge}
use Rattle.surface.proofs.Count.{length-map}
use Rattle.surface.proofs.Following.{re_edge}
use Rattle.slots.specs.Slot.{next_slot}
use Rattle.neighbours.specs.Around.{Neighbours}
use Rattle.spots.specs.InnerHeld.{flat_of, wide, wides, held_rows, HoldsStage}
use Rattle.spots.proofs.Held.{wide_inside, after_at}
use Rattle.spots.proofs.Live.{live_slot, live_follows, slot_one}
use Rattle.around.specs.InnerRing.{SlotsOf, RingOf, next_to}
use Rattle.around.specs.InnerMeeting.{Listed}

-- the corners next to the slots l of a flat table
abbrev pub nears : List ℕ → List ℕ → List ℕ
nears t l = map (λ (e : ℕ). get_or t (next_slot e) 0) l

-- a member of a mapped list comes from one of the list
pub map_out : (f : ℕ → ℕ) (l : List ℕ) {w : ℕ} → w ∈ map f l → (e : ℕ) × (e ∈ l) × (f e ≡ w)
map_out f [] m = absurd (Memᴰ.not-nil m)
map_out f (e ∷ l) {w} m = go (λ k. map_out f l k) (Memᴰ.cases_cons m)
  where
    go : (w ∈ map f l → (e : ℕ) × (e ∈ l) × (f e ≡ w)) → (w ≡ f e) ⊎ (w ∈ map f l) → (z : ℕ) × (z ∈ e ∷ l) × (f z ≡ w)
    go rec (inl q) = (e, Memᴰ.head refl, sym q)
    go rec (inr k) = let r = rec k in (r.0, Memᴰ.tail r.1, r.2)

pub nears_out : (t l : List ℕ) {w : ℕ} → w ∈ nears t l → (e : ℕ) × (e ∈ l) × (get_or t (next_slot e) 0 ≡ w)
nears_out t l m = map_out (λ (e : ℕ). get_or t (next_slot e) 0) l m

pub nears_in : (t l : List ℕ) {e : ℕ} → e ∈ l → get_or t (next_slot e) 0 ∈ nears t l
nears_in t l m = Memᴰ.map (λ (e : ℕ). get_or t (next_slot e) 0) m

-- read at the wide places they are the same
pub next_to_wides : (h : List ℕ) → length h % 4 ≡ 0 → (l : List ℕ) → ((e : ℕ) → e ∈ l → e < length (flat_of h)) → next_to h (wides l) ≡ nears (flat_of h) l
next_to_wides h w [] k = refl
next_to_wides h w (e ∷ l) k = ap₂ (λ (a : ℕ) (b : List ℕ). a ∷ b) (sym (after_at h w e (k e (Memᴰ.head refl)))) (next_to_wides h w l (λ z m. k z (Memᴰ.tail m)))

module _ {n : ℕ} {h : List ℕ} (s : HoldsStage n h) {v : ℕ} (small : v < most_corners) where
  abbrev t : List ℕ
  t = flat_of h

  live : (e : ℕ) → get_or t e 0 ≡ v → get_or t e 0 ≢ most_corners
  live e k z = omega arith

  -- no corner is next to two slots of v
  pub nears_distinct : (l : List ℕ) → ((e : ℕ) → e ∈ l → (e < length t) × (get_or t e 0 ≡ v)) → Distinct l → Distinct (nears t l)
  nears_distinct [] o none = none
  nears_distinct (e ∷ l) o (more q d) = more (λ m. go (nears_out t l m)) (nears_distinct l (λ z k. o z (Memᴰ.tail k)) d)
    where
      go : ((f : ℕ) × (f ∈ l) × (get_or t (next_slot f) 0 ≡ get_or t (next_slot e) 0)) → ⊥
      go z =
          let a = o e (Memᴰ.head refl) in
          let b = o z.0 (Memᴰ.tail z.1) in
          q (rw (slot_one t s.slotted z.0 e b.0 a.0 (live z.0 b.1) (b.1 ∙ sym a.1) z.2) at z.1)

  module _ {l : List ℕ} (g : SlotsOf t v l) where
    pub nears_neighbours : Neighbours (held_rows h) v (nears t l)
    nears_neighbours = record {
      distinct = nears_distinct l (λ z m. g.only m) g.distinct;
      all = λ {w} e. let a = live_slot t s.slotted e.1 in rw a.is_p at (nears_in t l (g.all a.e a.inside a.is_v));
      only = λ {w} m. only w (nears_out t l m);
    }
      where
        only : (w : ℕ) → ((e : ℕ) × (e ∈ l) × (get_or t (next_slot e) 0 ≡ w)) → Edge (held_rows h) v w
        only w f =
            let a = g.only f.1 in
            re_edge a.1 f.2 (get_or t (next_slot (next_slot f.0)) 0, live_follows t s.slotted f.0 a.0 (live f.0 a.1))

  module _ {ring : List ℕ} (g : RingOf h v ring) where
    -- the ring names the neighbours
    pub ring_neighbours : Neighbours (held_rows h) v (next_to h ring)
    ring_neighbours =
        let e : next_to h ring ≡ nears t g.slots = ap (next_to h) g.are ∙ next_to_wides h s.fours g.slots (λ z m. (g.lists.only m).0) in
        rw e (nears_neighbours g.lists)

    pub ring_listed : Listed h ring
    ring_listed = record {
      inside = λ {x} m. inside x (map_out (λ (e : ℕ). wide e) g.slots (rw g.are at m));
      below = λ {w} m. let e = ring_neighbours.only m in let b = s.slotted.stage.below (s.slotted.stage.both e).1 in let q = s.slotted.stage.many in omega arith;
    }
      where
        inside : (x : ℕ) → ((e : ℕ) × (e ∈ g.slots) × (wide e ≡ x)) → x < length h
        inside x z = rw z.2 at (wide_inside h s.fours (g.lists.only z.1).0)

pub next_to_length : (h ring : List ℕ) → length (next_to h ring) ≡ length ring
next_to_length h ring = length-map (λ (x : ℕ). get_or h x 0) ring

pub next_to_at : (h ring : List ℕ) (i : ℕ) → i < length ring → get_or (next_to h ring) i 0 ≡ get_or h (get_or ring i 0) 0
next_to_at h [] i l = absurd (omega arith)
next_to_at h (x ∷ ring) zero l = refl
next_to_at h (x ∷ ring) (suc i) l = next_to_at h ring i (omega arith)
