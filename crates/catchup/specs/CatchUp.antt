-- What the catch-up part hands back of two lent logs.
use Rattle.std.specs.Prelude.{◌≡◌, ◌≢◌, List, [], ◌++◌, ℕ, ◌+◌, ◌*◌, length}
use Rattle.std.specs.Borrow.{Bor}

-- l is a beginning of m: m is l and then a rest
pub record Beginning (l m : List ℕ) : Type 0 where
  pub rest : List ℕ
  pub is : m ≡ l ++ rest

-- a number of a log is four bytes
abbrev pub number_bytes : ℕ
number_bytes = 4

-- the caller's own memory: r is the numbers p of the log x, where they stand from place k on
pub record PartOf (x : Bor (List ℕ)) (k : ℕ) (p : List ℕ) (r : Bor (List ℕ)) : Type 0 where
  pub place : r.ref_ptr ≡ (x.ref_ptr.0, k * number_bytes + x.ref_ptr.1)
  pub holds : r.now ≡ p

-- if one is a beginning of the other, the rest of the longer; otherwise, or if they are equal, an empty part of the first (that from 0 to 0)
pub data CaughtUp (first second r : Bor (List ℕ)) : Type 0 where
  second_longer : (b : Beginning first.now second.now) → b.rest ≢ [] → PartOf second (length first.now) b.rest r → CaughtUp first second r
  first_longer : (b : Beginning second.now first.now) → b.rest ≢ [] → PartOf first (length second.now) b.rest r → CaughtUp first second r
  equal : first.now ≡ second.now → PartOf first 0 [] r → CaughtUp first second r
  neither : ¬ Beginning first.now second.now → ¬ Beginning second.now first.now → PartOf first 0 [] r → CaughtUp first second r
