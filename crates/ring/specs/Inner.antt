-- The table of the rule, as a list: proofs speak of it, and no public contract or promise names it.
use Rattle.std.specs.Prelude.{List, [], ◌∷◌, ℕ, zero, suc}
use Rattle.ring.specs.Ring.{size, number_at}

-- the table that follows the rule: its numbers from place k on, n of them
unfoldable pub numbers_from : ℕ → ℕ → List ℕ
numbers_from k zero = []
numbers_from k (suc n) = number_at k ∷ numbers_from (suc k) n

unfoldable pub ring : List ℕ
ring = numbers_from 0 size
