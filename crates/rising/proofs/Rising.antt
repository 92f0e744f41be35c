-- The least number above one that is passed: found by looking a list through, or by the marks of it.
use mathlib.Core.Path.{◌≡◌, refl, sym, ap, ◌∙◌}
use mathlib.Core.Logic.{◌⊎◌, inl, inr}
use mathlib.Core.Bool.{Bool, true, false, cond}
use mathlib.Core.List.Memᴰ
use mathlib.Core.List.{List, [], ◌∷◌}
use lib.ListN.{length, drop, drop_of_length-le}
use Prim.Native.Nat.{ℕ, ◌≤◌, ◌<◌, min}
use native.Mathlib.Decide.{dec_lt}
use native.Mathlib.Omega.{arith}
use Rattle.std.specs.Prelude.{Option, Some, None, nat_lt}
use Rattle.std.specs.Bool.{then_some}
use Rattle.std.specs.List.{fold, reduce, filter}
use Rattle.std.proofs.lemmas.Bool.{ltb-true, lt-ltb, le-ltb}
use Rattle.surface.specs.Lists.{◌∈◌}
use Rattle.rising.specs.Next.{NextAbove}

module _ (p : ℕ → Bool) where
  -- r is the least of x and those of l that pass
  record Least (x : ℕ) (l : List ℕ) (r : ℕ) : Type 0 where
    is : (r ≡ x) ⊎ ((r ∈ l) × (p r ≡ true))
    first : r ≤ x
    all : {w : ℕ} → w ∈ l → p w ≡ true → r ≤ w

  least_fold : (x : ℕ) (l : List ℕ) → Least x l (fold min x (filter p l))
  least_fold x [] = record { is = inl refl; first = omega arith; all = λ m. absurd (Memᴰ.not-nil m) }
  least_fold x (y ∷ l) = go (least_fold x l) (least_fold (min x y) l) (p y) refl
    where
      go : Least x l (fold min x (filter p l)) → Least (min x y) l (fold min (min x y) (filter p l)) → (b : Bool) → p y ≡ b → Least x (y ∷ l) (fold min x (cond b (y ∷ filter p l) (filter p l)))
      go f g true e = record { is = is g.is (dec_lt y x); first = let a = g.first in omega arith; all = λ {w} m q. all w q (Memᴰ.cases_cons m) }
        where
          r : ℕ
          r = fold min (min x y) (filter p l)

          is : (r ≡ min x y) ⊎ ((r ∈ l) × (p r ≡ true)) → Dec (y < x) → (r ≡ x) ⊎ ((r ∈ y ∷ l) × (p r ≡ true))
          is (inl q) (yes h) = let k : r ≡ y = omega arith in inr (Memᴰ.head k, rw k e)
          is (inl q) (no h) = inl (omega arith)
          is (inr q) d = inr (Memᴰ.tail q.0, q.1)

          all : (w : ℕ) → p w ≡ true → (w ≡ y) ⊎ (w ∈ l) → r ≤ w
          all w q (inl k) = let a = g.first in omega arith
          all w q (inr k) = g.all k q
      go g f false e = record { is = is g.is; first = g.first; all = λ {w} m q. all w q (Memᴰ.cases_cons m) }
        where
          r : ℕ
          r = fold min x (filter p l)

          is : (r ≡ x) ⊎ ((r ∈ l) × (p r ≡ true)) → (r ≡ x) ⊎ ((r ∈ y ∷ l) × (p r ≡ true))
          is (inl q) = inl q
          is (inr q) = inr (Memᴰ.tail q.0, q.1)

          all : (w : ℕ) → p w ≡ true → (w ≡ y) ⊎ (w ∈ l) → r ≤ w
          all w q (inl k) = absurd (let a : true ≡ false = sym q ∙ rw k e in cc)
          all w q (inr k) = g.all k q

-- the least of those above past
module _ (past : ℕ) where
  abbrev above : ℕ → Bool
  above w = nat_lt past w

  -- of numbers below n, the least with n itself is the least of them all, where any is above
  pub least_below : (n : ℕ) (l : List ℕ) → ((w : ℕ) → w ∈ l → w < n)
      → then_some (nat_lt (fold min n (filter above l)) n) (fold min n (filter above l)) ≡ reduce min (filter above l)
  least_below n [] h = ap (λ b. then_some b n) (le-ltb n n (omega arith))
  least_below n (y ∷ l) h = go (least_below n l (λ w m. h w (Memᴰ.tail m))) (above y) refl
    where
      f : ℕ → List ℕ → ℕ
      f x m = fold min x m

      y_less : y < n
      y_less = h y (Memᴰ.head refl)

      least_is : min n y ≡ y → f y (filter above l) < n → then_some (nat_lt (f (min n y) (filter above l)) n) (f (min n y) (filter above l)) ≡ Some (f y (filter above l))
      least_is e lt = rw e (ap (λ b. then_some b (f y (filter above l))) (lt-ltb (f y (filter above l)) n lt))

      go : then_some (nat_lt (f n (filter above l)) n) (f n (filter above l)) ≡ reduce min (filter above l) → (b : Bool) → above y ≡ b
          → then_some (nat_lt (f n (cond b (y ∷ filter above l) (filter above l))) n) (f n (cond b (y ∷ filter above l) (filter above l))) ≡ reduce min (cond b (y ∷ filter above l) (filter above l))
      go k true e = let a = (least_fold above y l).first in least_is (omega (arith, y_less)) (omega (arith, y_less))
      go k false e = k

  -- the same once all are looked at
  pub all_looked_at : (n least i : ℕ) (l : List ℕ) → ((w : ℕ) → w ∈ l → w < n) → length l ≤ i → fold min least (filter above (drop i l)) ≡ fold min n (filter above l)
      → then_some (nat_lt least n) least ≡ reduce min (filter above l)
  all_looked_at n least i l h end e =
      let k : least ≡ fold min n (filter above l) = rw (drop_of_length-le l end) at e in
      ap (λ r. then_some (nat_lt r n) r) k ∙ least_below n l h

  one_more : (y : ℕ) (l : List ℕ) → above y ≡ false → (o : Option ℕ) → NextAbove l past o → NextAbove (y ∷ l) past o
  one_more y l e None g = λ w m. go w (Memᴰ.cases_cons m)
    where
      go : (w : ℕ) → (w ≡ y) ⊎ (w ∈ l) → w ≤ past
      go w (inl k) = grind (arith, lt-ltb past y)
      go w (inr k) = g w k
  one_more y l e (Some r) g = record { stands = Memᴰ.tail g.stands; above = g.above; least = λ {w} m z. go w z (Memᴰ.cases_cons m) }
    where
      go : (w : ℕ) → past < w → (w ≡ y) ⊎ (w ∈ l) → r ≤ w
      go w z (inl k) = grind (arith, lt-ltb past y)
      go w z (inr k) = g.least k z

  pub least_above_lem : (l : List ℕ) → NextAbove l past (reduce min (filter above l))
  least_above_lem [] = λ w m. absurd (Memᴰ.not-nil m)
  least_above_lem (y ∷ l) = go (least_above_lem l) (above y) refl
    where
      go : NextAbove l past (reduce min (filter above l)) → (b : Bool) → above y ≡ b → NextAbove (y ∷ l) past (reduce min (cond b (y ∷ filter above l) (filter above l)))
      go f true e = record { stands = stands g.is; above = is_above g.is; least = λ {w} m z. least w z (Memᴰ.cases_cons m) }
        where
          r : ℕ
          r = fold min y (filter above l)

          g : Least above y l r
          g = least_fold above y l

          stands : (r ≡ y) ⊎ ((r ∈ l) × (above r ≡ true)) → r ∈ y ∷ l
          stands (inl q) = Memᴰ.head q
          stands (inr q) = Memᴰ.tail q.0

          is_above : (r ≡ y) ⊎ ((r ∈ l) × (above r ≡ true)) → past < r
          is_above (inl q) = rw q (ltb-true past y e)
          is_above (inr q) = ltb-true past r q.1

          least : (w : ℕ) → past < w → (w ≡ y) ⊎ (w ∈ l) → r ≤ w
          least w z (inl k) = let a = g.first in omega arith
          least w z (inr k) = g.all k (lt-ltb past w z)
      go f false e = one_more y l e _ f
