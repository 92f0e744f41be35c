-- The next number of a list, or of those that are marked.
use Rattle.std.specs.Prelude.{◌≡◌, ◌≢◌, List, ℕ, ◌≤◌, ◌<◌, get_or, Option, Some, None}
use Rattle.surface.specs.Lists.{◌∈◌}

-- r is the least number of l above past
pub record IsNext (l : List ℕ) (past r : ℕ) : Type 0 where
  pub stands : r ∈ l
  pub above : past < r
  pub least : {w : ℕ} → w ∈ l → past < w → r ≤ w

-- r is the least number of l above past, or none where l has none there
abbrev pub NextAbove : List ℕ → ℕ → Option ℕ → Type 0
NextAbove l past None = (w : ℕ) → w ∈ l → w ≤ past
NextAbove l past (Some r) = IsNext l past r

-- r is the first number above past that m marks
pub record IsMarked (m : List ℕ) (past r : ℕ) : Type 0 where
  pub marked : get_or m r 0 ≢ 0
  pub above : past < r
  pub first : (w : ℕ) → past < w → w < r → get_or m w 0 ≡ 0

-- r is the first number above past that m marks; or none, which tells nothing
abbrev pub NextMarked : List ℕ → ℕ → Option ℕ → Type 0
NextMarked m past None = Unit {0}
NextMarked m past (Some r) = IsMarked m past r
