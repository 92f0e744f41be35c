-- How many rows of a set stand before a row, by sums over blocks: sup has for each block how many stand before it, and sub for each row how
-- many of its own block stand before the row. A set is given by its bits: 1 for a row that stands, 0 for one that left.
use Rattle.std.specs.Prelude.{◌≡◌, ◌≢◌, List, ℕ, zero, suc, ◌+◌, ◌-◌, ◌*◌, ◌≤◌, ◌<◌, ◌/◌, ◌%◌, length, get_or}
use Rattle.std.proofs.Math.Logic.{ite}
use Rattle.std.proofs.Math.Decide.{ℕ_discrete, dec_lt}
use Rattle.surface.specs.Limits.{most_rows}

-- rows in a block, and blocks: together as many as there may be rows
abbrev pub block : ℕ
block = 64

abbrev pub blocks : ℕ
blocks = most_rows / block

-- the sum of f over the k rows from a on
unfoldable pub how_many : (ℕ → ℕ) → ℕ → ℕ → ℕ
how_many f a zero = 0
how_many f a (suc k) = how_many f a k + f (a + k)

-- sub and sup count the set f
pub record CountsRows (f : ℕ → ℕ) (sub sup : List ℕ) : Type 0 where
  pub size_sub : length sub ≡ most_rows
  pub size_sup : length sup ≡ blocks
  pub bit : (i : ℕ) → f i ≤ 1
  pub within : (i : ℕ) → i < most_rows → get_or sub i 0 ≡ how_many f (block * (i / block)) (i % block)
  pub sums : (b : ℕ) → b < blocks → get_or sup b 0 ≡ how_many f 0 (block * b)

-- they count some set
pub record CountsSome (sub sup : List ℕ) : Type 0 where
  pub set : ℕ → ℕ
  pub counts : CountsRows set sub sup

-- the set of every row
abbrev pub every : ℕ → ℕ
every i = 1

-- the set f without the row i
unfoldable pub without : (ℕ → ℕ) → ℕ → ℕ → ℕ
without f i j = ite {C = ℕ} (ℕ_discrete j i) 0 (f j)

-- n noughts, then n ones
pub record Stair (n : ℕ) (l : List ℕ) : Type 0 where
  pub size : length l ≡ 2 * n
  pub low : (k : ℕ) → k < n → get_or l k 0 ≡ 0
  pub high : (k : ℕ) → k < n → get_or l (n + k) 0 ≡ 1

-- the stair of the rows of a block, and the flight of the blocks
pub record Stairs (stair flight : List ℕ) : Type 0 where
  pub stair_is : Stair block stair
  pub flight_is : Stair blocks flight

-- r rows stand before i
pub record StandBefore (i : ℕ) (sub sup : List ℕ) (r : ℕ) : Type 0 where
  pub is : (f : ℕ → ℕ) → CountsRows f sub sup → r ≡ how_many f 0 i

-- the rows i and j both stand
pub record TwoStand (i j : ℕ) (sub sup : List ℕ) : Type 0 where
  pub set : ℕ → ℕ
  pub counts : CountsRows set sub sup
  pub first : set i ≡ 1
  pub second : set j ≡ 1
  pub apart : i ≢ j

-- and both left
pub record TwoLeft (i j : ℕ) (sub sup sub' sup' : List ℕ) : Type 0 where
  pub counts : (f : ℕ → ℕ) → CountsRows f sub sup → f i ≡ 1 → f j ≡ 1 → i ≢ j → CountsRows (without (without f i) j) sub' sup'

-- each row has its place in its block, and each block the rows before it
pub record InBlocks (sub : List ℕ) : Type 0 where
  pub size : length sub ≡ most_rows
  pub places : (i : ℕ) → i < most_rows → get_or sub i 0 ≡ i % block

pub record Firsts (sup : List ℕ) : Type 0 where
  pub size : length sup ≡ blocks
  pub firsts : (b : ℕ) → b < blocks → get_or sup b 0 ≡ block * b

-- 1 for a number past i, 0 for another
unfoldable pub past : ℕ → ℕ → ℕ
past i k = ite {C = ℕ} (dec_lt i k) 1 0

-- 1 for a row past i in the same block, 0 for another
unfoldable pub later_in_block : ℕ → ℕ → ℕ
later_in_block i k = ite {C = ℕ} (ℕ_discrete (k / block) (i / block)) (past i k) 0

-- the block of i has the numbers of less
pub record BlockWritten (i : ℕ) (less sub sub' : List ℕ) : Type 0 where
  pub size : length sub' ≡ length sub
  pub here : (k : ℕ) → k < block → get_or sub' (block * (i / block) + k) 0 ≡ get_or less k 0
  pub other : (r : ℕ) → r / block ≢ i / block → get_or sub' r 0 ≡ get_or sub r 0

-- every later row of the block of i can lose one, and lost it
pub record CanLower (i : ℕ) (sub : List ℕ) : Type 0 where
  pub size : length sub ≡ most_rows
  pub enough : (k : ℕ) → k < most_rows → later_in_block i k ≤ get_or sub k 0

pub record BlockLowered (i : ℕ) (sub sub' : List ℕ) : Type 0 where
  pub size : length sub' ≡ length sub
  pub lost : (k : ℕ) → k < most_rows → get_or sub' k 0 ≡ get_or sub k 0 - later_in_block i k

-- every block past that of i, and every one past that of j, can lose one, and lost it
pub record CanDrop (i j : ℕ) (sup : List ℕ) : Type 0 where
  pub size : length sup ≡ blocks
  pub enough : (b : ℕ) → b < blocks → past (i / block) b + past (j / block) b ≤ get_or sup b 0

pub record Dropped (i j : ℕ) (sup sup' : List ℕ) : Type 0 where
  pub size : length sup' ≡ length sup
  pub lost : (b : ℕ) → b < blocks → get_or sup' b 0 ≡ get_or sup b 0 - past (i / block) b - past (j / block) b
