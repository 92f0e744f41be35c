-- Given bytes are compared one by one with those at a place.
use mathlib.Core.Path.{◌≡◌, refl, sym, ◌∙◌, ap}
use mathlib.Core.List.{List, [], ◌∷◌, ◌++◌, append_assoc, append_cancel_left}
use Prim.Native.Nat.{ℕ, suc, ◌+◌, ◌≤◌, ◌<◌}
use native.Mathlib.Omega.{arith}
use lib.ListN.{length, take, drop, get_or, drop_of_length-le, take-append-drop}
use lib.Seq.{drop-cons, take-suc, take_all}

-- the first i bytes of w stand from at to k
pub record Compared (w s : List ℕ) (at k i : ℕ) : Type 0 where
  pub within : i ≤ length w
  pub bytes : drop at s ≡ take i w ++ drop k s

module _ (w s : List ℕ) (at : ℕ) where
  pub compare_start : Compared w s at at 0
  compare_start = record { within = omega arith; bytes = refl }

  module _ (k i : ℕ) (so : Compared w s at k i) where
    -- were w there, its next byte would be at k
    next_there : (r : List ℕ) → i < length w → drop at s ≡ w ++ r → drop k s ≡ get_or w i 0 ∷ (drop (suc i) w ++ r)
    next_there r h e =
        let f : w ++ r ≡ take i w ++ (drop i w ++ r) = ap (λ x. x ++ r) (sym (take-append-drop i w)) ∙ append_assoc (take i w) (drop i w) r in
        append_cancel_left (take i w) (drop k s) (drop i w ++ r) (sym so.bytes ∙ e ∙ f) ∙ ap (λ x. x ++ r) (drop-cons w i 0 h)

    pub compare_past : (r : List ℕ) → i < length w → length s ≤ k → drop at s ≡ w ++ r → ⊥
    compare_past r h l e = let f = ap length (sym (drop_of_length-le s l) ∙ next_there r h e) in omega arith

    pub compare_other : (r : List ℕ) → i < length w → k < length s → (get_or s k 0 ≡ get_or w i 0 → ⊥) → drop at s ≡ w ++ r → ⊥
    compare_other r h l n e =
        let f : get_or s k 0 ∷ drop (suc k) s ≡ get_or w i 0 ∷ (drop (suc i) w ++ r) = sym (drop-cons s k 0 l) ∙ next_there r h e in
        n (cc)

    pub compare_more : i < length w → k < length s → get_or s k 0 ≡ get_or w i 0 → Compared w s at (k + 1) (i + 1)
    compare_more h l e =
        let a : suc i ≡ i + 1 = omega arith in
        let b : suc k ≡ k + 1 = omega arith in
        let f : drop k s ≡ get_or w i 0 ∷ drop (k + 1) s = drop-cons s k 0 l ∙ (λ j. e j ∷ drop (b j) s) in
        let g : take (i + 1) w ≡ take i w ++ (get_or w i 0 ∷ []) = ap (λ (j : ℕ). take j w) (sym a) ∙ take-suc w i 0 h in
        record {
          within = omega arith;
          bytes = so.bytes ∙ ap (λ x. take i w ++ x) f ∙ sym (append_assoc (take i w) (get_or w i 0 ∷ []) (drop (k + 1) s)) ∙ ap (λ x. x ++ drop (k + 1) s) (sym g);
        }

    pub compare_end : length w ≤ i → drop at s ≡ w ++ drop k s
    compare_end h = so.bytes ∙ ap (λ x. x ++ drop k s) (take_all i w h)
