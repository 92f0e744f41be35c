-- Words of eight bytes, the lowest first.
use Rattle.std.specs.Prelude.{ℕ, zero, suc, ◌+◌, ◌*◌, ◌/◌, ◌%◌, List, [], ◌∷◌, take, drop}

-- the number of some bytes, the lowest first: byte k counts 256 ^ k times
unfoldable pub of_bytes : List ℕ → ℕ
of_bytes [] = 0
of_bytes (b ∷ l) = b + 256 * of_bytes l

-- the lowest n bytes of a number, the lowest first
unfoldable pub bytes_of : ℕ → ℕ → List ℕ
bytes_of zero w = []
bytes_of (suc n) w = w % 256 ∷ bytes_of n (w / 256)

-- the number of the n bytes from place i on
abbrev pub bytes_at : ℕ → List ℕ → ℕ → ℕ
bytes_at n b i = of_bytes (take n (drop i b))
