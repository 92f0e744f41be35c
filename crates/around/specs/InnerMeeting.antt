-- The neighbours of u, or of a corner that goes into it, are met at u: each is marked, and waits to be tried if it may have changed.
use Rattle.std.specs.Prelude.{◌≡◌, ◌≢◌, ◌⊎◌, List, ℕ, ◌+◌, ◌<◌, length, get_or}
use Rattle.surface.specs.Limits.{most_corners}
use Rattle.surface.specs.Lists.{◌∈◌}
use Rattle.waiting.specs.InnerWaiting.{Member}
use Rattle.around.specs.InnerRing.{next_to}

-- the places of ring are inside h, and hold corners
pub record Listed (h ring : List ℕ) : Type 0 where
  pub inside : {x : ℕ} → x ∈ ring → x < length h
  pub below : {w : ℕ} → w ∈ next_to h ring → w < most_corners

-- the corners of l have been met at u: all are marked with u + 1, and those wait that are above u and did not have the mark but; where but is that
-- of u's neighbours, no other begins to wait
pub record Met (u but : ℕ) (l m₀ bits₀ m bits : List ℕ) : Type 0 where
  pub size : length m ≡ length m₀
  pub changes : (z : ℕ) → (get_or m z 0 ≡ get_or m₀ z 0) ⊎ ((get_or m z 0 ≡ u + 1) × (z ∈ l))
  pub marks : (z : ℕ) → z ∈ l → get_or m z 0 ≡ u + 1
  pub waits_old : (z : ℕ) → Member bits₀ z → Member bits z
  pub waits_new : (z : ℕ) → z ∈ l → u < z → get_or m₀ z 0 ≢ but → Member bits z
  pub waits_only : (z : ℕ) → Member bits z → Member bits₀ z ⊎ ((z ∈ l) × (u < z) × (but ≡ u + 1 → get_or m₀ z 0 ≢ but))
