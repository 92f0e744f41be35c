-- How many wait: one fewer when a member leaves.
use mathlib.Core.Path.{◌≡◌, refl, sym, ◌∙◌}
use mathlib.Core.Logic.{◌≢◌, ite}
use mathlib.Core.List.{List}
use Prim.Native.Nat.{ℕ, zero, suc, ◌+◌, ◌≤◌, ◌<◌}
use native.Mathlib.Decide.{ℕ_discrete}
use native.Mathlib.Omega.{arith}
use Rattle.surface.specs.Limits.{most_corners}
use Rattle.waiting.specs.InnerWaiting.{digit_of, Member, Released, waiters}

-- 1 for a member, 0 for another
abbrev bit : List ℕ → ℕ → ℕ
bit bits k = ite {C = ℕ} (ℕ_discrete (digit_of bits k) 1) 1 0

bit_out : (bits : List ℕ) (k : ℕ) → k < most_corners → ¬ Member bits k → bit bits k ≡ 0
bit_out bits k h m = go (ℕ_discrete (digit_of bits k) 1)
  where
    go : (d : Dec (digit_of bits k ≡ 1)) → ite {C = ℕ} d 1 0 ≡ 0
    go (yes e) = absurd (m (h, e))
    go (no e) = refl

bit_in : (bits : List ℕ) (k : ℕ) → Member bits k → bit bits k ≡ 1
bit_in bits k m = go (ℕ_discrete (digit_of bits k) 1)
  where
    go : (d : Dec (digit_of bits k ≡ 1)) → ite {C = ℕ} d 1 0 ≡ 1
    go (yes e) = refl
    go (no e) = absurd (e m.1)

bit_most : (bits : List ℕ) (k : ℕ) → bit bits k ≤ 1
bit_most bits k = go (ℕ_discrete (digit_of bits k) 1)
  where
    go : (d : Dec (digit_of bits k ≡ 1)) → ite {C = ℕ} d 1 0 ≤ 1
    go (yes e) = omega arith
    go (no e) = omega arith

pub waiters_most : (bits : List ℕ) (k : ℕ) → waiters bits k ≤ k
unfolding waiters
waiters_most bits zero = omega arith
waiters_most bits (suc k) = let r = waiters_most bits k in let b = bit_most bits k in omega arith

module _ {v : ℕ} {bits bits' : List ℕ} (t : Released v bits bits') where
  bit_kept : (k : ℕ) → k < most_corners → k ≢ v → bit bits' k ≡ bit bits k
  bit_kept k h d = go (ℕ_discrete (digit_of bits k) 1)
    where
      go : Dec (digit_of bits k ≡ 1) → bit bits' k ≡ bit bits k
      go (yes e) = bit_in bits' k (t.kept k d (h, e)) ∙ sym (bit_in bits k (h, e))
      go (no e) = bit_out bits' k h (λ m. e (t.only k m).1) ∙ sym (bit_out bits k h (λ m. e m.1))

  waiters_under : (k : ℕ) → k ≤ v → k ≤ most_corners → waiters bits' k ≡ waiters bits k
  unfolding waiters
  waiters_under zero l h = refl
  waiters_under (suc k) l h = let r = waiters_under k (omega arith) (omega arith) in let b = bit_kept k (omega arith) (λ e. omega arith) in omega arith

  waiters_over : Member bits v → (k : ℕ) → v < k → k ≤ most_corners → suc (waiters bits' k) ≡ waiters bits k
  unfolding waiters
  waiters_over m zero l h = absurd (omega arith)
  waiters_over m (suc k) l h = go (ℕ_discrete k v) (λ a. waiters_over m k a (omega arith))
    where
      go : Dec (k ≡ v) → (v < k → suc (waiters bits' k) ≡ waiters bits k) → suc (waiters bits' k + bit bits' k) ≡ waiters bits k + bit bits k
      go (yes e) rec =
          let a = waiters_under k (omega arith) (omega arith) in
          let b = bit_in bits k (rw e m) in
          let d = bit_out bits' k (omega arith) (rw e t.gone) in
          omega arith
      go (no e) rec = let a = rec (omega arith) in let b = bit_kept k (omega arith) e in omega arith

  pub waiters_fewer : Member bits v → waiters bits' most_corners < waiters bits most_corners
  waiters_fewer m = let s = m.0 in let e = waiters_over m most_corners s (omega arith) in omega arith
