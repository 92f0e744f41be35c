-- The table that follows the rule, by place.
use mathlib.Core.Path.{◌≡◌, refl, sym, ◌∙◌, ap}
use mathlib.Core.Logic.{◌⊎◌, inl, inr}
use mathlib.Core.List.{[], ◌∷◌}
use Prim.Native.Nat.{ℕ, zero, suc, ◌+◌, ◌≤◌, ◌<◌}
use native.Mathlib.Omega.{arith}
use lib.IntN.{pos}
use lib.ListN.{length, get_or}
use Rattle.std.specs.Prelude.{Option, Some, None, List, option_copied}
use Rattle.std.specs.Slice.{IsItemAt}
use Rattle.std.proofs.Common.{Bor}
use Rattle.refusal.specs.Told.{done}
use Rattle.ring.specs.Answer.{told}
use Rattle.ring.specs.Ring.{size, number_at, AnswerAt}
use Rattle.ring.specs.Inner.{numbers_from, ring}

numbers_at : (n k i : ℕ) → i < n → get_or (numbers_from k n) i 0 ≡ number_at (k + i)
unfolding numbers_from
numbers_at zero k i h = absurd (omega arith)
numbers_at (suc n) k zero h = ap number_at (let e : k ≡ k + 0 = omega arith in e)
numbers_at (suc n) k (suc i) h = numbers_at n (suc k) i (omega arith) ∙ ap number_at (let e : suc k + i ≡ k + suc i = omega arith in e)

pub ring_at : (k : ℕ) → k < size → get_or ring k 0 ≡ number_at k
unfolding ring
ring_at k h = numbers_at size 0 k h ∙ ap number_at (let e : 0 + k ≡ k = omega arith in e)

numbers_length_lem : (n k : ℕ) → length (numbers_from k n) ≡ n
unfolding numbers_from
numbers_length_lem zero k = refl
numbers_length_lem (suc n) k = ap suc (numbers_length_lem n (suc k))

pub ring_numbers : length ring ≡ size
unfolding ring
ring_numbers = numbers_length_lem size 0

-- what is found by place in a list that is that table
pub looked_up : (l : List ℕ) (k : ℕ) (r : Option (Bor ℕ)) → l ≡ ring → IsItemAt l k r → AnswerAt k (option_copied r)
looked_up l k (Some x) e h =
    let there : k < size = omega (arith, h.3.0, ap length e, ring_numbers) in
    (there, h.3.1 0 ∙ ap (λ m. get_or m k 0) e ∙ ring_at k there)
looked_up l k None e h = omega (arith, h.3, ap length e, ring_numbers)

-- no second answer satisfies the same words
pub trial_one : (k : ℕ) (r s : Option ℕ) → AnswerAt k r → AnswerAt k s → r ≡ s
trial_one k (Some v) (Some w) p q = ap Some (p.1 ∙ sym q.1)
trial_one k (Some v) None p q = let h = p.0 in absurd (omega arith)
trial_one k None (Some w) p q = let h = q.0 in absurd (omega arith)
trial_one k None None p q = refl

-- the answer tells the number, or past the end nothing
pub trial_told : (k : ℕ) (r : Option ℕ) → AnswerAt k r → ((k < size) × (told r ≡ done (pos (number_at k) ∷ []))) ⊎ ((size ≤ k) × (told r ≡ done []))
trial_told k (Some v) p = inl (p.0, ap (λ z. done (pos z ∷ [])) p.1)
trial_told k None p = inr (p, refl)
