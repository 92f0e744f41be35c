-- Neighbours met one by one.
use mathlib.Core.Path.{◌≡◌, refl, sym, ◌∙◌, ap}
use mathlib.Core.Logic.{◌≢◌, ◌⊎◌, ◌↔◌, inl, inr}
use mathlib.Core.Bool.{Bool, true, false, not}
use mathlib.Core.List.Memᴰ
use mathlib.Core.List.{List}
use Prim.Native.Nat.{ℕ, ◌+◌, ◌≤◌, ◌<◌}
use native.Mathlib.Decide.{ℕ_discrete}
use native.Mathlib.Omega.{arith}
use lib.ListN.{length, get_or, set, take, length-set}
use lib.Seq.{take_all, get_or-set_same, get_or-set_other}
use Rattle.std.specs.Prelude.{nat_eq, nat_lt}
use Rattle.std.proofs.lemmas.Bool.Decides.{nat_tests}
use Rattle.std.proofs.lemmas.Bool.{ltb-true, lt-ltb}
use Rattle.surface.specs.Limits.{most_corners}
use Rattle.surface.specs.Lists.{◌∈◌}
use Rattle.surface.proofs.Flat.{at_place}
use Rattle.neighbours.proofs.Firsts.{first_split, first_old, first_new}
use Rattle.waiting.specs.InnerWaiting.{Member, Joined}
use Rattle.around.specs.InnerRing.{next_to}
use Rattle.around.specs.InnerMeeting.{Listed, Met}
use Rattle.around.proofs.Nears.{next_to_length, next_to_at}

module _ {h ring : List ℕ} (g : Listed h ring) {i : ℕ} (l : i < length ring) where
  pub place_inside : get_or ring i 0 < length h
  place_inside = g.inside (at_place ring i 0 l)

  -- the corner next to the place i of ring
  pub corner_below : get_or h (get_or ring i 0) 0 < most_corners
  corner_below = g.below (rw (next_to_at h ring i l) at (at_place (next_to h ring) i 0 (let q = next_to_length h ring in omega arith)))

-- on tells whether m is not but and w is above u
pub told : {on : Bool} {m but w u : ℕ} → m ≢ but → on ≡ nat_lt u w → (on ≡ true) ↔ ((m ≢ but) × (u < w))
told n e = (λ q. (n, ltb-true _ _ (sym e ∙ q)), λ z. e ∙ lt-ltb _ _ z.1)

pub told_not : {on : Bool} {m but w u : ℕ} → m ≡ but → on ≡ not (nat_eq m but) → (on ≡ true) ↔ ((m ≢ but) × (u < w))
told_not {m = m} {but} k e =
    let same : nat_eq m but ≡ true = grind (arith, nat_tests) in
    (λ q. absurd (apart (ap not (sym same) ∙ sym e ∙ q)), λ z. absurd (z.0 k))
  where
    apart : false ≡ true → ⊥
    apart q = cc

pub met_none : (u but : ℕ) (l m bits : List ℕ) → Met u but (take 0 l) m bits m bits
met_none u but l m bits = record {
  size = refl;
  changes = λ z. inl refl;
  marks = λ z k. absurd (Memᴰ.not-nil k);
  waits_old = λ z k. k;
  waits_new = λ z k a b. absurd (Memᴰ.not-nil k);
  waits_only = λ z k. inl k;
}

-- one more: w, the corner at place i of l
module _ (u but : ℕ) (l m₀ bits₀ m bits : List ℕ) (i w : ℕ) (h : i < length l) (e : w ≡ get_or l i 0) (fits : w < length m₀) (g : Met u but (take i l) m₀ bits₀ m bits) where
  is_new : {z : ℕ} → z ≡ w → z ∈ take (i + 1) l
  is_new q = first_new l i h (q ∙ e)

  split : {z : ℕ} → z ∈ take (i + 1) l → (z ∈ take i l) ⊎ (z ≡ w)
  split {z} k = go (first_split l i h k)
    where
      go : (z ∈ take i l) ⊎ (z ≡ get_or l i 0) → (z ∈ take i l) ⊎ (z ≡ w)
      go (inl a) = inl a
      go (inr a) = inr (a ∙ sym e)

  at_w : get_or (set m w (u + 1)) w 0 ≡ u + 1
  at_w = let q = g.size in get_or-set_same m w (u + 1) 0 (omega arith)

  off_w : (z : ℕ) → z ≢ w → get_or (set m w (u + 1)) z 0 ≡ get_or m z 0
  off_w z k = get_or-set_other m w z (u + 1) 0 k

  changes : (z : ℕ) → Dec (z ≡ w) → (get_or (set m w (u + 1)) z 0 ≡ get_or m₀ z 0) ⊎ ((get_or (set m w (u + 1)) z 0 ≡ u + 1) × (z ∈ take (i + 1) l))
  changes z (yes k) = inr (rw k at_w, is_new k)
  changes z (no k) = rw (off_w z k) (go (g.changes z))
    where
      go : (get_or m z 0 ≡ get_or m₀ z 0) ⊎ ((get_or m z 0 ≡ u + 1) × (z ∈ take i l)) → (get_or m z 0 ≡ get_or m₀ z 0) ⊎ ((get_or m z 0 ≡ u + 1) × (z ∈ take (i + 1) l))
      go (inl q) = inl q
      go (inr q) = inr (q.0, first_old l i h q.1)

  marks : (z : ℕ) → Dec (z ≡ w) → z ∈ take (i + 1) l → get_or (set m w (u + 1)) z 0 ≡ u + 1
  marks z (yes k) q = rw k at_w
  marks z (no k) q = off_w z k ∙ go (split q)
    where
      go : (z ∈ take i l) ⊎ (z ≡ w) → get_or m z 0 ≡ u + 1
      go (inl a) = g.marks z a
      go (inr a) = absurd (k a)

  pub met_more : {on : Bool} {bits' : List ℕ} → ((on ≡ true) ↔ ((get_or m w 0 ≢ but) × (u < w))) → Joined on w bits bits' → Met u but (take (i + 1) l) m₀ bits₀ (set m w (u + 1)) bits'
  met_more {on} {bits'} j k = record {
    size = length-set m w (u + 1) ∙ g.size;
    changes = λ z. changes z (ℕ_discrete z w);
    marks = λ z q. marks z (ℕ_discrete z w) q;
    waits_old = λ z q. k.kept z (g.waits_old z q);
    waits_new = λ z q a b. new z a b (split q);
    waits_only = λ z q. only z (k.only z q);
  }
    where
      -- a corner met before keeps what it had; w has its first mark still, or was met before
      new : (z : ℕ) → u < z → get_or m₀ z 0 ≢ but → (z ∈ take i l) ⊎ (z ≡ w) → Member bits' z
      new z a b (inl q) = k.kept z (g.waits_new z q a b)
      new z a b (inr q) = go (g.changes w)
        where
          go : (get_or m w 0 ≡ get_or m₀ w 0) ⊎ ((get_or m w 0 ≡ u + 1) × (w ∈ take i l)) → Member bits' z
          go (inl c) = rw q (k.here (j.1 (λ x. b (rw q (sym c ∙ x)), rw q at a)))
          go (inr c) = k.kept z (g.waits_new z (rw q c.1) a b)

      only : (z : ℕ) → Member bits z ⊎ ((z ≡ w) × (on ≡ true)) → Member bits₀ z ⊎ ((z ∈ take (i + 1) l) × (u < z) × (but ≡ u + 1 → get_or m₀ z 0 ≢ but))
      only z (inl q) = go (g.waits_only z q)
        where
          go : Member bits₀ z ⊎ ((z ∈ take i l) × (u < z) × (but ≡ u + 1 → get_or m₀ z 0 ≢ but)) → Member bits₀ z ⊎ ((z ∈ take (i + 1) l) × (u < z) × (but ≡ u + 1 → get_or m₀ z 0 ≢ but))
          go (inl a) = inl a
          go (inr a) = inr (first_old l i h a.0, a.1, a.2)
      only z (inr q) = inr (is_new q.0, rw q.0 so.1, λ e. rw q.0 (unmarked e (g.changes w)))
        where
          so : (get_or m w 0 ≢ but) × (u < w)
          so = j.0 q.1

          -- its mark now is its first one, or that of u's neighbours
          unmarked : but ≡ u + 1 → (get_or m w 0 ≡ get_or m₀ w 0) ⊎ ((get_or m w 0 ≡ u + 1) × (w ∈ take i l)) → get_or m₀ w 0 ≢ but
          unmarked e (inl c) z = so.0 (c ∙ z)
          unmarked e (inr c) z = so.0 (c.0 ∙ sym e)

pub met_end : {u but : ℕ} {l m₀ bits₀ m bits : List ℕ} {i : ℕ} → length l ≤ i → Met u but (take i l) m₀ bits₀ m bits → Met u but l m₀ bits₀ m bits
met_end {l = l} {i = i} h g = rw (take_all i l h) at g
