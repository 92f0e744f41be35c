-- The way of a stand-in: from corner to corner, each step within a limit.
use Rattle.std.specs.Prelude.{◌≡◌, List, ℕ, suc, ℤ}
use Rattle.distance.specs.Corners.{Short}

-- k steps lead from a to b, each within a limit of L
pub data Chain (xs : List ℤ) (L : ℕ) : ℕ → ℕ → ℕ → Type 0 where
  chain_none : {a b : ℕ} → a ≡ b → Chain xs L 0 a b
  chain_more : {k a b c : ℕ} → Chain xs L k a b → Short xs L b c → Chain xs L (suc k) a c
