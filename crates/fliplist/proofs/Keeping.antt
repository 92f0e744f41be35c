-- A stage kept by flips, in its flat table.
use mathlib.Core.Path.{◌≡◌, sym, ◌∙◌, ap}
use mathlib.Core.List.{List}
use Prim.Native.Nat.{ℕ, ◌/◌, ◌%◌}
use native.Mathlib.Decide.{ℕ_discrete}
use native.Mathlib.Omega.{arith}
use lib.ListN.{length}
use Rattle.surface.specs.Rows.{Row, rows, flat}
use Rattle.surface.proofs.Flat.{rows_flat, flat_length, flat_rows}
use Rattle.flips.specs.Kept.{StageKept}
use Rattle.faults.specs.Counts.{CountsFit}

-- a table that is not refused for its counts is its rows' numbers
pub whole_table : (n : ℕ) (t : List ℕ) → ¬ (¬ CountsFit n t) → flat (rows t) ≡ t
whole_table n t fits = go (ℕ_discrete (length t % 3) 0)
  where
    go : Dec (length t % 3 ≡ 0) → flat (rows t) ≡ t
    go (yes e) = flat_rows (length t / 3) t (omega arith)
    go (no m) = absurd (fits (λ c. m c.table.threes))

-- a stage kept, and written in the table
pub kept_flat : {n : ℕ} {t t' : List ℕ} {T : List Row} → StageKept n (rows t) T → flat (rows t) ≡ t → t' ≡ flat T → StageKept n (rows t) (rows t') × (length t' ≡ length t)
kept_flat {n} {t} {t'} {T} k whole is = (rw (ap rows is ∙ rows_flat T) k, same)
  where
    same : length t' ≡ length t
    same =
        let e = ap length is ∙ flat_length T in
        let h = sym (flat_length (rows t)) ∙ ap length whole in
        let i = k.size in
        omega arith
