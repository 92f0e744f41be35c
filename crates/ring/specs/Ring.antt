-- The trial ring's grid rule.
use Rattle.std.specs.Prelude.{◌≡◌, List, [], ◌∷◌, ℕ, ◌+◌, ◌*◌, ◌/◌, ◌%◌, ◌≤◌, ◌<◌, get_or, Option, Some, None}

-- corner (r, c) is 8 r + c, both taken round at 8
abbrev pub corner : ℕ → ℕ → ℕ
corner r c = 8 * (r % 8) + c % 8

-- the six numbers of the two rows that corner (r, c) gives: ((r, c), (r + 1, c), (r + 1, c + 1)) and ((r, c), (r + 1, c + 1), (r, c + 1))
abbrev pub six : ℕ → ℕ → List ℕ
six r c = corner r c ∷ corner (r + 1) c ∷ corner (r + 1) (c + 1) ∷ corner r c ∷ corner (r + 1) (c + 1) ∷ corner r (c + 1) ∷ []

-- the numbers of the table: 8 by 8 corners of two rows of three
abbrev pub size : ℕ
size = 384

-- in order of the corners' numbers, the number at place k
unfoldable pub number_at : ℕ → ℕ
number_at k = get_or (six (k / 6 / 8) (k / 6 % 8)) (k % 6) 0

-- the answer: the number at a place of the table, nothing past it
abbrev pub AnswerAt : ℕ → Option ℕ → Type 0
AnswerAt k (Some v) = (k < size) × (v ≡ number_at k)
AnswerAt k None = size ≤ k
