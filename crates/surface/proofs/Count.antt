-- Counting the elements of lists in which none occurs twice.
use mathlib.Core.Path.{◌≡◌, refl, sym, ◌∙◌, ap}
use mathlib.Core.Logic.{◌≢◌, ◌⊎◌, inl, inr, ite}
use mathlib.Core.List.Memᴰ
use mathlib.Core.List.{List, [], ◌∷◌, map, filter}
use Prim.Native.Nat.{suc, ◌≤◌}
use native.Mathlib.Omega.{arith}
use lib.ListN.{length}
use Rattle.surface.specs.Lists.{◌∈◌, Distinct, none, more}
use Rattle.surface.proofs.Renumber.{filter_out}

module _ {A : Type 0} where
  -- the list without one place
  pub without : {a : A} {m : List A} → a ∈ m → (l : List A) × (length m ≡ suc (length l)) × ((b : A) → b ∈ m → (b ≡ a) ⊎ (b ∈ l))
  without {a} (Memᴰ.head {x = z} {xs = m} e) = (m, refl, λ b h. go b (Memᴰ.cases_cons h))
    where
      go : (b : A) → (b ≡ z) ⊎ (b ∈ m) → (b ≡ a) ⊎ (b ∈ m)
      go b (inl k) = inl (k ∙ sym e)
      go b (inr k) = inr k
  without {a} (Memᴰ.tail {x = z} {xs = m} h) =
      let r = without h in
      (z ∷ r.0, ap suc r.1, λ b k. go r.0 b (λ k. r.2 b k) (Memᴰ.cases_cons k))
    where
      up : (l : List A) (b : A) → (b ≡ a) ⊎ (b ∈ l) → (b ≡ a) ⊎ (b ∈ z ∷ l)
      up l b (inl k) = inl k
      up l b (inr k) = inr (Memᴰ.tail k)

      go : (l : List A) (b : A) → (b ∈ m → (b ≡ a) ⊎ (b ∈ l)) → (b ≡ z) ⊎ (b ∈ m) → (b ≡ a) ⊎ (b ∈ z ∷ l)
      go l b rec (inl k) = inr (Memᴰ.head k)
      go l b rec (inr k) = up l b (rec k)

  -- a list in which none occurs twice is no longer than one that has all its elements
  pub fits : {l : List A} → Distinct l → (m : List A) → ((a : A) → a ∈ l → a ∈ m) → length l ≤ length m
  fits none m sub = omega arith
  fits (more {a = a} {l = l} n d) m sub =
      let r = without (sub a (Memᴰ.head refl)) in
      let below : length l ≤ length r.0 = fits d r.0 (λ b h. go r.0 b h (r.2 b (sub b (Memᴰ.tail h)))) in
      let e : length m ≡ suc (length r.0) = r.1 in
      omega arith
    where
      go : (k : List A) (b : A) → b ∈ l → (b ≡ a) ⊎ (b ∈ k) → b ∈ k
      go k b h (inl e) = absurd (n (Memᴰ.cast (sym e) h))
      go k b h (inr m) = m

  module _ {p : A → Type 0} (d : (a : A) → Dec (p a)) where
    pub distinct_filter : {l : List A} → Distinct l → Distinct (filter d l)
    distinct_filter none = none
    distinct_filter (more {a = a} {l = l} n k) = go (d a) (distinct_filter k)
      where
        go : (e : Dec (p a)) → Distinct (filter d l) → Distinct (ite {C = List A} e (a ∷ filter d l) (filter d l))
        go (yes h) rec = more (λ m. n (filter_out d l m).0) rec
        go (no h) rec = rec

  pub not_two : {a b : A} {l : List A} → a ≢ b → ¬ (a ∈ l) → ¬ (a ∈ b ∷ l)
  not_two {a} {b} {l} n k m = go (Memᴰ.cases_cons m)
    where
      go : (a ≡ b) ⊎ (a ∈ l) → ⊥
      go (inl e) = n e
      go (inr h) = k h

pub length-map : {A B : Type 0} (f : A → B) (l : List A) → length (map f l) ≡ length l
length-map f [] = refl
length-map f (z ∷ l) = ap suc (length-map f l)
