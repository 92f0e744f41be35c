-- A list passed through number by number.
use mathlib.Core.Path.{◌≡◌}
use mathlib.Core.Logic.{◌⊎◌, inl, inr}
use mathlib.Core.List.Memᴰ
use mathlib.Core.List.{List, [], ◌∷◌, ◌++◌}
use Prim.Native.Nat.{ℕ, ◌+◌, ◌<◌}
use native.Mathlib.Numerals.{add-one}
use lib.ListN.{length, get_or, take}
use lib.Seq.{take-suc}
use Rattle.surface.specs.Lists.{◌∈◌}

-- the first i + 1 numbers of l are the first i and the one at i
module _ (l : List ℕ) (i : ℕ) (h : i < length l) where
  first_more : take (i + 1) l ≡ take i l ++ (get_or l i 0 ∷ [])
  first_more = rw add-one (take-suc l i 0 h)

  pub first_split : {w : ℕ} → w ∈ take (i + 1) l → (w ∈ take i l) ⊎ (w ≡ get_or l i 0)
  first_split {w} m = go (Memᴰ.append_cases (take i l) (rw first_more at m))
    where
      go : (w ∈ take i l) ⊎ (w ∈ get_or l i 0 ∷ []) → (w ∈ take i l) ⊎ (w ≡ get_or l i 0)
      go (inl k) = inl k
      go (inr k) = inr (Memᴰ.eq_of_singleton k)

  pub first_old : {w : ℕ} → w ∈ take i l → w ∈ take (i + 1) l
  first_old m = rw first_more (Memᴰ.append_left (get_or l i 0 ∷ []) m)

  pub first_new : {w : ℕ} → w ≡ get_or l i 0 → w ∈ take (i + 1) l
  first_new e = rw first_more (Memᴰ.append_right (take i l) (Memᴰ.head e))
