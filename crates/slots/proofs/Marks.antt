-- Marks in a list: 0 for none.
use mathlib.Core.Path.{◌≡◌, refl, sym, ◌∙◌, ap}
use mathlib.Core.Logic.{◌≢◌, ◌⊎◌, inl, inr}
use mathlib.Core.Bool.{Bool, true, false}
use mathlib.Core.List.{List, [], ◌∷◌}
use Prim.Native.Nat.{ℕ, zero, suc, ◌≤◌, ◌<◌}
use native.Mathlib.Decide.{ℕ_discrete}
use native.Mathlib.Omega.{arith}
use lib.Dec.{eqb}
use lib.ListN.{length, get_or, set, replicate, take}
use lib.Seq.{get_or-set_same, get_or-set_other}
use Rattle.std.specs.Bool.{MatchBool}
use Rattle.std.specs.List.{IsAnyAnswer}
use Rattle.std.proofs.lemmas.Bool.{eqb-true, eqb-false}
use Rattle.std.proofs.lemmas.List.{get_or-take, length-take-le}
use Rattle.slots.specs.Marks.{zeros}

pub zeros_set : (m : List ℕ) (e : ℕ) → e < length m → get_or m e 0 ≡ 0 → suc (zeros (set m e 1)) ≡ zeros m
unfolding zeros
zeros_set [] e h k = absurd (omega arith)
zeros_set (zero ∷ m) zero h k = refl
zeros_set (suc x ∷ m) zero h k = absurd (omega arith)
zeros_set (zero ∷ m) (suc e) h k = ap suc (zeros_set m e (omega arith) k)
zeros_set (suc x ∷ m) (suc e) h k = zeros_set m e (omega arith) k

pub zeros_blank : (m : List ℕ) → ((k : ℕ) → get_or m k 0 ≡ 0) → zeros m ≡ length m
unfolding zeros
zeros_blank [] h = refl
zeros_blank (zero ∷ m) h = ap suc (zeros_blank m (λ k. h (suc k)))
zeros_blank (suc x ∷ m) h = let z = h 0 in absurd (omega arith)

pub mark_new : (m : List ℕ) (e k : ℕ) → e < length m → k ≡ e → get_or (set m e 1) k 0 ≢ 0
mark_new m e k h q z = let r = get_or-set_same m e 1 0 h in let s : get_or (set m e 1) e 0 ≡ 0 = ap (λ (i : ℕ). get_or (set m e 1) i 0) (sym q) ∙ z in omega arith

pub mark_old : (m : List ℕ) (e k : ℕ) → e < length m → get_or m k 0 ≢ 0 → get_or (set m e 1) k 0 ≢ 0
mark_old m e k h n = go (ℕ_discrete k e)
  where
    go : Dec (k ≡ e) → get_or (set m e 1) k 0 ≢ 0
    go (yes q) = mark_new m e k h q
    go (no q) = λ z. n (sym (get_or-set_other m e k 1 0 q) ∙ z)

pub mark_out : (m : List ℕ) (e k : ℕ) → get_or (set m e 1) k 0 ≢ 0 → (k ≡ e) ⊎ (get_or m k 0 ≢ 0)
mark_out m e k n = go (ℕ_discrete k e)
  where
    go : Dec (k ≡ e) → (k ≡ e) ⊎ (get_or m k 0 ≢ 0)
    go (yes q) = inl q
    go (no q) = inr (λ z. n (get_or-set_other m e k 1 0 q ∙ z))

pub no_mark : (n k : ℕ) → ◌≡◌ {A = ℕ} (get_or (replicate n 0) k 0) 0
no_mark zero k = refl
no_mark (suc n) zero = refl
no_mark (suc n) (suc k) = no_mark n k

-- whether one of the first n is 0, by what `contains` tells
pub none_among : (n : ℕ) (l : List ℕ) (r : Bool) → n ≤ length l → IsAnyAnswer (λ y b. eqb y 0 ≡ b) (take n l) r →
    MatchBool r ((k : ℕ) × (k < n) × (get_or l k 0 ≡ 0)) ((k : ℕ) → k < n → get_or l k 0 ≢ 0)
none_among n l true h a =
    let small : a.0 < n = omega (arith, a.1, length-take-le n l h) in
    (a.0, small, sym (get_or-take n l a.0 0 small) ∙ eqb-true _ _ (a.2 0))
none_among n l false h a = λ k small e. eqb-false _ _ (a k 0 (omega arith) (omega (arith, length-take-le n l h))) (get_or-take n l k 0 small ∙ e)
