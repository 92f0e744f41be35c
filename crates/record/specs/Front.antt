-- A lent table or room: so many rows stand in front of it, and whatever lies past them is zeros or the caller's.
use Rattle.std.specs.Prelude.{List, ◌++◌, ℕ, ◌-◌, ◌*◌, length, take, drop, replicate}
use Rattle.surface.specs.Rows.{Row, rows, flat}

-- the numbers of the first m rows
abbrev pub front_rows : ℕ → List ℕ → List ℕ
front_rows m t = take (3 * m) t

-- the m rows that stand in front
abbrev pub standing : ℕ → List ℕ → List Row
standing m t = rows (front_rows m t)

-- the rows T in front, and all that lies past them as it was
abbrev pub filled : List Row → List ℕ → List ℕ
filled T t = flat T ++ drop (3 * length T) t

-- the rows T in front, and zeros in the rest of the table's length
abbrev pub zeroed : List Row → List ℕ → List ℕ
zeroed T t = flat T ++ replicate (length t - length (flat T)) 0

-- the rows T in front, zeros to where m rows ended, and past that all as it was
abbrev pub lowered : ℕ → List Row → List ℕ → List ℕ
lowered m T t = flat T ++ (replicate (3 * m - length (flat T)) 0 ++ drop (3 * m) t)
