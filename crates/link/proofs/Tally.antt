-- Lists counted through, number by number.
use mathlib.Core.Path.{◌≡◌, refl, sym, ◌∙◌}
use mathlib.Core.Logic.{◌⊎◌, inl, inr}
use mathlib.Core.List.Memᴰ
use mathlib.Core.List.{List, [], ◌∷◌, ◌++◌}
use Prim.Native.Nat.{ℕ, ◌+◌, ◌≤◌, ◌<◌}
use native.Mathlib.Omega.{arith}
use lib.ListN.{length, get_or, take, length-append}
use lib.Seq.{take_all, get_or-take, length-take-le}
use Rattle.surface.specs.Lists.{◌∈◌, Distinct, none, more, Exactly}
use Rattle.surface.proofs.Counted.{distinct_append}
use Rattle.surface.proofs.Flat.{place_of, places_differ}
use Rattle.neighbours.proofs.Firsts.{first_split, first_old, first_new}

-- what holds of the same things is counted alike
pub exactly_same : {P Q : ℕ → Type 0} {k : ℕ} → ((w : ℕ) → P w → Q w) → ((w : ℕ) → Q w → P w) → Exactly P k → Exactly Q k
exactly_same f g c = record { list = c.list; distinct = c.distinct; all = λ {a} q. c.all (g a q); only = λ {a} m. f a (c.only m); count = c.count }

-- those of the first i numbers of l that have the property P
abbrev pub Among : (ℕ → Type 0) → List ℕ → ℕ → ℕ → Type 0
Among P l i w = (w ∈ take i l) × P w

module _ (P : ℕ → Type 0) (l : List ℕ) where
  pub count_none : Exactly (Among P l 0) 0
  count_none = record { list = []; distinct = none; all = λ h. h.0; only = λ m. absurd (Memᴰ.not-nil m); count = refl }

  module _ (i : ℕ) (h : i < length l) where
    -- a number without the property is passed
    pub count_past : {k : ℕ} → ¬ P (get_or l i 0) → Exactly (Among P l i) k → Exactly (Among P l (i + 1)) k
    count_past n c = exactly_same (λ w z. (first_old l i h z.0, z.1)) (λ w z. (still w (first_split l i h z.0) z.1, z.1)) c
      where
        still : (w : ℕ) → (w ∈ take i l) ⊎ (w ≡ get_or l i 0) → P w → w ∈ take i l
        still w (inl m) p = m
        still w (inr e) p = absurd (n (rw e at p))

    -- one with it is counted, and no number occurs twice
    pub count_more : {k : ℕ} → Distinct l → P (get_or l i 0) → Exactly (Among P l i) k → Exactly (Among P l (i + 1)) (k + 1)
    count_more d p c = record {
      list = c.list ++ (get_or l i 0 ∷ []);
      distinct = distinct_append c.distinct (more Memᴰ.not-nil none) (λ w m k. fresh w (c.only m).0 (Memᴰ.eq_of_singleton k));
      all = λ {a} z. all a (first_split l i h z.0) z.1;
      only = λ {a} m. only a (Memᴰ.append_cases c.list m);
      count = let a = length-append c.list (get_or l i 0 ∷ []) in let b = c.count in omega arith;
    }
      where
        fresh : (w : ℕ) → w ∈ take i l → w ≡ get_or l i 0 → ⊥
        fresh w m e =
            let r = place_of 0 m in
            let a = r.1 in
            let b = length-take-le i l (omega arith) in
            let j : r.0 < i = omega arith in
            places_differ 0 d r.0 i j h (sym (get_or-take i l r.0 0 j) ∙ r.2 ∙ e)

        all : (w : ℕ) → (w ∈ take i l) ⊎ (w ≡ get_or l i 0) → P w → w ∈ c.list ++ (get_or l i 0 ∷ [])
        all w (inl m) q = Memᴰ.append_left (get_or l i 0 ∷ []) (c.all (m, q))
        all w (inr e) q = Memᴰ.append_right c.list (Memᴰ.head e)

        only : (w : ℕ) → (w ∈ c.list) ⊎ (w ∈ get_or l i 0 ∷ []) → Among P l (i + 1) w
        only w (inl m) = let z = c.only m in (first_old l i h z.0, z.1)
        only w (inr m) = let e = Memᴰ.eq_of_singleton m in (first_new l i h e, rw e p)

  -- at the end those of all of l are counted
  pub count_end : (i : ℕ) {k : ℕ} → length l ≤ i → Exactly (Among P l i) k → Exactly (λ w. (w ∈ l) × P w) k
  count_end i h c = exactly_same (λ w z. (rw (take_all i l h) at z.0, z.1)) (λ w z. (rw (take_all i l h) z.0, z.1)) c
