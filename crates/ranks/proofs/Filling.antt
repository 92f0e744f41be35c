-- Filling the numbers of the set of every row, and the stair and the flight.
use mathlib.Core.Path.{◌≡◌, sym, ◌∙◌}
use mathlib.Core.List.{List}
use Prim.Native.Nat.{ℕ, ◌+◌, ◌*◌, ◌<◌, ◌/◌, ◌%◌}
use native.Mathlib.Decide.{ℕ_discrete}
use native.Mathlib.Omega.{arith}
use lib.ListN.{length, get_or, set}
use lib.Seq.{get_or-set_same, get_or-set_other}
use Rattle.ranks.specs.InnerRanks.{block, CountsRows, every, InBlocks, Firsts}
use Rattle.ranks.proofs.Sums.{how_many_every}

-- below k each number of l is what v says
abbrev pub Filled : (ℕ → ℕ) → ℕ → List ℕ → Type 0
Filled v k l = (i : ℕ) → i < k → get_or l i 0 ≡ v i

pub fill_more : (v : ℕ → ℕ) (k : ℕ) (l : List ℕ) → k < length l → Filled v k l → Filled v (k + 1) (set l k (v k))
fill_more v k l h f i m = go (ℕ_discrete i k)
  where
    go : Dec (i ≡ k) → get_or (set l k (v k)) i 0 ≡ v i
    go (yes e) = rw e (get_or-set_same l k (v k) 0 h)
    go (no e) = get_or-set_other l k i (v k) 0 e ∙ f i (omega arith)

pub fill_counts : (sub sup : List ℕ) → InBlocks sub → Firsts sup → CountsRows every sub sup
fill_counts sub sup p q = record {
  size_sub = p.size;
  size_sup = q.size;
  bit = λ i. omega arith;
  within = λ i h. p.places i h ∙ sym (how_many_every (block * (i / block)) (i % block));
  sums = λ b h. q.firsts b h ∙ sym (how_many_every 0 (block * b));
}
