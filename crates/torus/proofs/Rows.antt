-- The table that follows the rule, row by row.
use mathlib.Core.Path.{◌≡◌, ◌∙◌}
use Prim.Native.Nat.{ℕ, ◌+◌, ◌*◌, ◌/◌, ◌%◌, ◌<◌}
use native.Mathlib.Omega.{arith}
use lib.ListN.{length, get_or}
use Rattle.surface.specs.Rows.{Row, row, rows}
use Rattle.surface.proofs.Flat.{rows_at, rows_length}
use Rattle.ring.specs.Ring.{corner, six, number_at}
use Rattle.ring.specs.Inner.{ring}
use Rattle.ring.proofs.Rule.{ring_at, ring_numbers}

pub ring_length : length (rows ring) ≡ 128
ring_length = rows_length 128 ring ring_numbers

-- number j of the six that corner v gives
six_at : (v j k : ℕ) → v < 64 → j < 6 → k ≡ 6 * v + j → get_or ring k 0 ≡ get_or (six (v / 8) (v % 8)) j 0
unfolding number_at
six_at v j k h l e =
    let q : k / 6 ≡ v = omega arith in
    let m : k % 6 ≡ j = omega arith in
    ring_at k (omega arith) ∙ (λ i. get_or (six (q i / 8) (q i % 8)) (m i) 0)

-- in order of its number, corner (r, c), 8 r + c = v, gives two rows
pub row_first : (v : ℕ) (d : Row) → v < 64 → get_or (rows ring) (2 * v) d ≡ row (corner (v / 8) (v % 8)) (corner (v / 8 + 1) (v % 8)) (corner (v / 8 + 1) (v % 8 + 1))
row_first v d h =
    let b : 2 * v < length (rows ring) = omega (arith, ring_length) in
    rows_at (2 * v) ring d b
    ∙ (λ i. row (six_at v 0 (3 * (2 * v)) h (omega arith) (omega arith) i) (six_at v 1 (3 * (2 * v) + 1) h (omega arith) (omega arith) i) (six_at v 2 (3 * (2 * v) + 2) h (omega arith) (omega arith) i))

pub row_second : (v : ℕ) (d : Row) → v < 64 → get_or (rows ring) (2 * v + 1) d ≡ row (corner (v / 8) (v % 8)) (corner (v / 8 + 1) (v % 8 + 1)) (corner (v / 8) (v % 8 + 1))
row_second v d h =
    let b : 2 * v + 1 < length (rows ring) = omega (arith, ring_length) in
    rows_at (2 * v + 1) ring d b
    ∙ (λ i. row (six_at v 3 (3 * (2 * v + 1)) h (omega arith) (omega arith) i) (six_at v 4 (3 * (2 * v + 1) + 1) h (omega arith) (omega arith) i) (six_at v 5 (3 * (2 * v + 1) + 2) h (omega arith) (omega arith) i))
