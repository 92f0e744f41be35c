-- Refusals 4 to 11: what each is given for, and what stands where it is not.
use Rattle.std.specs.Prelude.{◌≡◌, ◌≢◌, List, ◌∷◌, ℕ, ◌≤◌, ◌<◌, ℤ, nat_abs}
use Rattle.surface.specs.Lists.{◌∈◌, Distinct, Reach}
use Rattle.surface.specs.Rows.{Row}
use Rattle.surface.specs.Table.{Follows, Edge, Used, edges}
use Rattle.corners.specs.Limits.{most_coordinate}

-- 4: a coordinate out of range; the opposite is InRange
pub record OutOfRange (xs : List ℤ) : Type 0 where
  pub z : ℤ
  pub here : z ∈ xs
  pub far : most_coordinate < nat_abs z

-- 5: a corner number not below the count (rows turn, so v is any number of a row)
pub record NotBelow (n : ℕ) (T : List Row) : Type 0 where
  pub v : ℕ
  pub p : ℕ
  pub q : ℕ
  pub here : Follows T v p q
  pub past : n ≤ v

-- every number in a row is below the corner count
abbrev pub Below : ℕ → List Row → Type 0
Below n T = (v p q : ℕ) → Follows T v p q → v < n

-- 6: a number twice in a row
pub record TwiceInRow (T : List Row) : Type 0 where
  pub v : ℕ
  pub p : ℕ
  pub q : ℕ
  pub here : Follows T v p q
  pub same : v ≡ p

-- a row's three numbers differ
abbrev pub Apart : List Row → Type 0
Apart T = (v p q : ℕ) → Follows T v p q → v ≢ p

-- an element occurs twice
pub data Twice {A : Type 0} : List A → Type 0 where
  again : {a : A} {l : List A} → a ∈ l → Twice (a ∷ l)
  later : {a : A} {l : List A} → Twice l → Twice (a ∷ l)

-- 7: a directed edge twice
abbrev pub EdgeRepeats : List Row → Type 0
EdgeRepeats T = Twice (edges T)

-- each directed edge occurs once
abbrev pub EdgesOnce : List Row → Type 0
EdgesOnce T = Distinct (edges T)

-- 8: a reverse missing
pub record NoReverse (T : List Row) : Type 0 where
  pub p : ℕ
  pub q : ℕ
  pub goes : Edge T p q
  pub back : ¬ Edge T q p

-- the reverse of each directed edge occurs
abbrev pub BothWays : List Row → Type 0
BothWays T = (p q : ℕ) → Edge T p q → Edge T q p

-- 9: a corner unused
pub record Unused (n : ℕ) (T : List Row) : Type 0 where
  pub v : ℕ
  pub below : v < n
  pub unused : ¬ Used T v

-- every corner is used
abbrev pub AllUsed : ℕ → List Row → Type 0
AllUsed n T = (v : ℕ) → v < n → Used T v

-- 10: more than one ring round a corner: following from one neighbour does not visit another
pub record ManyRings (T : List Row) : Type 0 where
  pub v : ℕ
  pub p : ℕ
  pub q : ℕ
  pub one : Edge T v p
  pub other : Edge T v q
  pub apart : ¬ Reach (Follows T v) p q

-- the rows round each corner form one ring: following from any neighbour visits all neighbours
abbrev pub OneRing : List Row → Type 0
OneRing T = (v p q : ℕ) → Edge T v p → Edge T v q → Reach (Follows T v) p q

-- 11: not connected: a used corner is not reached from another by edges
pub record Parted (T : List Row) : Type 0 where
  pub p : ℕ
  pub q : ℕ
  pub one : Used T p
  pub other : Used T q
  pub apart : ¬ Reach (Edge T) p q

-- any used corner is reached from any other by edges
abbrev pub Connected : List Row → Type 0
Connected T = (p q : ℕ) → Used T p → Used T q → Reach (Edge T) p q

-- none of 5 to 8: each directed edge occurs once, and its reverse occurs
pub record Closed (n : ℕ) (T : List Row) : Type 0 where
  pub below : Below n T
  pub apart : Apart T
  pub once : EdgesOnce T
  pub both : BothWays T
