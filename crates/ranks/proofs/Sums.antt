-- Sums over rows: of two stretches that meet, and of a set that a row left.
use mathlib.Core.Path.{◌≡◌, refl, sym, ◌∙◌}
use mathlib.Core.Logic.{◌≢◌, ite}
use mathlib.Core.List.{List}
use Prim.Native.Nat.{ℕ, zero, suc, ◌+◌, ◌*◌, ◌≤◌, ◌<◌, ◌/◌, ◌%◌}
use native.Mathlib.Decide.{ℕ_discrete, dec_lt}
use native.Mathlib.Omega.{arith}
use lib.ListN.{get_or}
use Rattle.surface.specs.Limits.{most_rows}
use Rattle.ranks.specs.InnerRanks.{block, how_many, CountsRows, every, without, StandBefore, past, later_in_block}

pub how_many_join : (f : ℕ → ℕ) (a k m : ℕ) → how_many f a k + how_many f (a + k) m ≡ how_many f a (k + m)
unfolding how_many
how_many_join f a k zero = let e : k + 0 ≡ k = omega arith in rw e (omega arith)
how_many_join f a k (suc m) =
    let e : k + suc m ≡ suc (k + m) = omega arith in
    let s : a + (k + m) ≡ a + k + m = omega arith in
    let r = how_many_join f a k m in
    rw (e, s) (omega arith)

pub how_many_same : (f g : ℕ → ℕ) (a k : ℕ) → ((i : ℕ) → i < a + k → f i ≡ g i) → how_many f a k ≡ how_many g a k
unfolding how_many
how_many_same f g a zero h = refl
how_many_same f g a (suc k) h =
    let r = how_many_same f g a k (λ i l. h i (omega arith)) in
    let s = h (a + k) (omega arith) in
    omega arith

pub how_many_every : (a k : ℕ) → how_many every a k ≡ k
unfolding how_many
how_many_every a zero = refl
how_many_every a (suc k) = let r = how_many_every a k in omega arith

-- the rows before i are those before its block and those of its block
pub how_many_parts : (f : ℕ → ℕ) (i : ℕ) → how_many f 0 (block * (i / block)) + how_many f (block * (i / block)) (i % block) ≡ how_many f 0 i
how_many_parts f i =
    let e : block * (i / block) + i % block ≡ i = omega arith in
    let z : 0 + block * (i / block) ≡ block * (i / block) = omega arith in
    let j = how_many_join f 0 (block * (i / block)) (i % block) in
    rw (e, z) at j

pub before_is : (sub sup : List ℕ) (i : ℕ) → i < most_rows → StandBefore i sub sup (get_or sup (i / block) 0 + get_or sub i 0)
before_is sub sup i h = record { is = λ f c. let a = c.sums (i / block) (omega arith) in let b = c.within i h in omega (arith, how_many_parts f i) }

pub without_here : (f : ℕ → ℕ) (i : ℕ) → without f i i ≡ 0
unfolding without
without_here f i = go (ℕ_discrete i i)
  where
    go : (d : Dec (i ≡ i)) → ite {C = ℕ} d 0 (f i) ≡ 0
    go (yes e) = refl
    go (no e) = absurd (e refl)

pub without_other : (f : ℕ → ℕ) (i j : ℕ) → j ≢ i → without f i j ≡ f j
unfolding without
without_other f i j h = go (ℕ_discrete j i)
  where
    go : (d : Dec (j ≡ i)) → ite {C = ℕ} d 0 (f j) ≡ f j
    go (yes e) = absurd (h e)
    go (no e) = refl

pub without_bit : (f : ℕ → ℕ) (i : ℕ) → ((j : ℕ) → f j ≤ 1) → (j : ℕ) → without f i j ≤ 1
without_bit f i b j = go (ℕ_discrete j i)
  where
    go : Dec (j ≡ i) → without f i j ≤ 1
    go (yes e) = rw e (let z = without_here f i in omega arith)
    go (no e) = rw (without_other f i j e) (b j)

-- a sum that i is out of is as it was, and one that it is in is one less
module _ (f : ℕ → ℕ) (i : ℕ) where
  pub how_many_out : (a k : ℕ) → ((j : ℕ) → a ≤ j → j < a + k → j ≢ i) → how_many (without f i) a k ≡ how_many f a k
  unfolding how_many
  how_many_out a zero h = refl
  how_many_out a (suc k) h =
      let r = how_many_out a k (λ j l m. h j l (omega arith)) in
      let s = without_other f i (a + k) (h (a + k) (omega arith) (omega arith)) in
      omega arith

  pub how_many_in : f i ≡ 1 → (a k : ℕ) → a ≤ i → i < a + k → suc (how_many (without f i) a k) ≡ how_many f a k
  unfolding how_many
  how_many_in o a zero l h = absurd (omega arith)
  how_many_in o a (suc k) l h = go (ℕ_discrete (a + k) i) (λ q. how_many_in o a k l q)
    where
      go : Dec (a + k ≡ i) → (i < a + k → suc (how_many (without f i) a k) ≡ how_many f a k) → suc (how_many (without f i) a k + without f i (a + k)) ≡ how_many f a k + f (a + k)
      go (yes e) rec =
          let r = how_many_out a k (λ j m n q. omega arith) in
          let s : without f i (a + k) ≡ 0 = rw e (without_here f i) in
          let t : f (a + k) ≡ 1 = rw e o in
          omega arith
      go (no e) rec =
          let r = rec (omega arith) in
          let s = without_other f i (a + k) e in
          omega arith

pub past_yes : (i k : ℕ) → i < k → past i k ≡ 1
unfolding past
past_yes i k h = go (dec_lt i k)
  where
    go : (d : Dec (i < k)) → ite {C = ℕ} d 1 0 ≡ 1
    go (yes e) = refl
    go (no e) = absurd (e h)

pub past_no : (i k : ℕ) → k ≤ i → past i k ≡ 0
unfolding past
past_no i k h = go (dec_lt i k)
  where
    go : (d : Dec (i < k)) → ite {C = ℕ} d 1 0 ≡ 0
    go (yes e) = absurd (omega arith)
    go (no e) = refl

pub later_same : (i k : ℕ) → k / block ≡ i / block → later_in_block i k ≡ past i k
unfolding later_in_block
later_same i k h = go (ℕ_discrete (k / block) (i / block))
  where
    go : (d : Dec (k / block ≡ i / block)) → ite {C = ℕ} d (past i k) 0 ≡ past i k
    go (yes e) = refl
    go (no e) = absurd (e h)

pub later_other : (i k : ℕ) → k / block ≢ i / block → later_in_block i k ≡ 0
unfolding later_in_block
later_other i k h = go (ℕ_discrete (k / block) (i / block))
  where
    go : (d : Dec (k / block ≡ i / block)) → ite {C = ℕ} d (past i k) 0 ≡ 0
    go (yes e) = absurd (h e)
    go (no e) = refl

-- what the numbers of a row and of a block lose when i leaves
module _ (f : ℕ → ℕ) (i : ℕ) (o : f i ≡ 1) where
  pub within_less : (k : ℕ) → how_many (without f i) (block * (k / block)) (k % block) + later_in_block i k ≡ how_many f (block * (k / block)) (k % block)
  within_less k = go (ℕ_discrete (k / block) (i / block)) (dec_lt i k)
    where
      go : Dec (k / block ≡ i / block) → Dec (i < k) → how_many (without f i) (block * (k / block)) (k % block) + later_in_block i k ≡ how_many f (block * (k / block)) (k % block)
      go (yes e) (yes h) =
          let a = later_same i k e in
          let b = past_yes i k h in
          let c = how_many_in f i o (block * (k / block)) (k % block) (omega arith) (omega arith) in
          omega arith
      go (yes e) (no h) =
          let a = later_same i k e in
          let b = past_no i k (omega arith) in
          let c = how_many_out f i (block * (k / block)) (k % block) (λ j l m q. omega arith) in
          omega arith
      go (no e) h =
          let a = later_other i k e in
          let c = how_many_out f i (block * (k / block)) (k % block) (λ j l m q. e (omega arith)) in
          omega arith

  pub sums_less : (b : ℕ) → how_many (without f i) 0 (block * b) + past (i / block) b ≡ how_many f 0 (block * b)
  sums_less b = go (dec_lt (i / block) b)
    where
      go : Dec (i / block < b) → how_many (without f i) 0 (block * b) + past (i / block) b ≡ how_many f 0 (block * b)
      go (yes h) =
          let a = past_yes (i / block) b h in
          let c = how_many_in f i o 0 (block * b) (omega arith) (omega arith) in
          omega arith
      go (no h) =
          let a = past_no (i / block) b (omega arith) in
          let c = how_many_out f i 0 (block * b) (λ j l m q. omega arith) in
          omega arith

-- a set with the same rows is counted alike
pub counts_same : (f g : ℕ → ℕ) (sub sup : List ℕ) → ((i : ℕ) → f i ≡ g i) → CountsRows f sub sup → CountsRows g sub sup
counts_same f g sub sup h c = record {
  size_sub = c.size_sub;
  size_sup = c.size_sup;
  bit = λ i. rw (sym (h i)) (c.bit i);
  within = λ i l. c.within i l ∙ how_many_same f g (block * (i / block)) (i % block) (λ j m. h j);
  sums = λ b l. c.sums b l ∙ how_many_same f g 0 (block * b) (λ j m. h j);
}
