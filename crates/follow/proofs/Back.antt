-- A list from its end.
use mathlib.Core.Path.{◌≡◌, sym, ◌∙◌, ap}
use mathlib.Core.List.{List, [], ◌∷◌, ◌++◌, reverse, reverse-cons}
use Prim.Native.Nat.{ℕ, suc, ◌-◌, ◌<◌}
use native.Mathlib.Decide.{dec_lt}
use native.Mathlib.Omega.{arith}
use lib.ListN.{length, get_or, length-reverse, get_or-append}
use lib.Seq.{get_or-append_seam}

pub reverse_at : {A : Type 0} (l : List A) (j : ℕ) (d : A) → j < length l → get_or (reverse l) j d ≡ get_or l (length l - 1 - j) d
reverse_at [] j d h = absurd (omega arith)
reverse_at (a ∷ l) j d h = ap (λ m. get_or m j d) (reverse-cons a l) ∙ go (dec_lt j (length l)) (λ k. reverse_at l j d k)
  where
    r : length (reverse l) ≡ length l
    r = length-reverse l

    go : Dec (j < length l) → (j < length l → get_or (reverse l) j d ≡ get_or l (length l - 1 - j) d) → get_or (reverse l ++ (a ∷ [])) j d ≡ get_or (a ∷ l) (length (a ∷ l) - 1 - j) d
    go (yes k) rec =
        let e : length (a ∷ l) - 1 - j ≡ suc (length l - 1 - j) = omega arith in
        get_or-append (reverse l) (a ∷ []) d j (omega (arith, r, k)) ∙ rec k ∙ ap (λ m. get_or (a ∷ l) m d) (sym e)
    go (no k) rec =
        let e : j ≡ length (reverse l) = omega (arith, r, k) in
        let f : length (a ∷ l) - 1 - j ≡ 0 = omega (arith, k) in
        ap (λ m. get_or (reverse l ++ (a ∷ [])) m d) e ∙ get_or-append_seam (reverse l) a [] d ∙ ap (λ m. get_or (a ∷ l) m d) (sym f)
