-- A set of corners that names its least: a bit for each corner in words of 64, and in one word more a bit for each word that is not nought.
use Rattle.std.specs.Prelude.{◌≡◌, ◌≢◌, ◌⊎◌, Bool, true, List, ℕ, zero, suc, ◌+◌, ◌*◌, ◌^◌, ◌≤◌, ◌<◌, ◌/◌, ◌%◌, length, get_or, Option, Some, None}
use Rattle.std.proofs.Math.Logic.{ite}
use Rattle.std.proofs.Math.Decide.{ℕ_discrete}
use Rattle.surface.specs.Limits.{most_corners}

-- bits in a word, and words: together no fewer bits than there may be corners
abbrev pub word : ℕ
word = 64

abbrev pub words : ℕ
words = most_corners / word + 1

-- the digit k of x, the lowest first
unfoldable pub digit : ℕ → ℕ → ℕ
digit x zero = x % 2
digit x (suc k) = digit (x / 2) k

-- the digit of the corner w
abbrev pub digit_of : List ℕ → ℕ → ℕ
digit_of bits w = digit (get_or bits (w / word) 0) (w % word)

-- w waits
abbrev pub Member : List ℕ → ℕ → Type 0
Member bits w = (w < most_corners) × (digit_of bits w ≡ 1)

-- tops tells which words of bits are not nought; no bit past the corners is set
pub record TopsTell (bits : List ℕ) (tops : ℕ) : Type 0 where
  pub size_bits : length bits ≡ words
  pub bits_fit : (b : ℕ) → get_or bits b 0 < 2 ^ word
  pub tops_fit : tops < 2 ^ word
  pub beyond : (w : ℕ) → most_corners ≤ w → w < word * words → digit_of bits w ≡ 0
  pub some : (b : ℕ) → b < words → get_or bits b 0 ≢ 0 → digit tops b ≡ 1
  pub only : (b : ℕ) → digit tops b ≡ 1 → (b < words) × (get_or bits b 0 ≢ 0)

-- w joined where on says so, and nothing else changed
pub record Joined (on : Bool) (w : ℕ) (bits bits' : List ℕ) : Type 0 where
  pub here : on ≡ true → Member bits' w
  pub kept : (v : ℕ) → Member bits v → Member bits' v
  pub only : (v : ℕ) → Member bits' v → Member bits v ⊎ ((v ≡ w) × (on ≡ true))

-- w left, and nothing else changed
pub record Released (w : ℕ) (bits bits' : List ℕ) : Type 0 where
  pub gone : ¬ Member bits' w
  pub kept : (v : ℕ) → v ≢ w → Member bits v → Member bits' v
  pub only : (v : ℕ) → Member bits' v → Member bits v

-- r is the least member
pub record LeastWaits (bits : List ℕ) (r : ℕ) : Type 0 where
  pub member : Member bits r
  pub least : (w : ℕ) → Member bits w → r ≤ w

-- r is the least member, or none where there is no member
abbrev pub LeastOf : List ℕ → Option ℕ → Type 0
LeastOf bits None = (w : ℕ) → ¬ Member bits w
LeastOf bits (Some r) = LeastWaits bits r

-- how many corners below k are members
unfoldable pub waiters : List ℕ → ℕ → ℕ
waiters bits zero = 0
waiters bits (suc k) = waiters bits k + ite {C = ℕ} (ℕ_discrete (digit_of bits k) 1) 1 0
