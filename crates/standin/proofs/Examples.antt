-- The definitions at work on short logs.
use mathlib.Core.Path.{◌≡◌, refl}
use mathlib.Core.List.{List, [], ◌∷◌}
use Prim.Native.Nat.{ℕ}
use native.Mathlib.Decide.{ℕ_discrete}
use Rattle.surface.specs.Rows.{row}
use Rattle.surface.specs.Contract.{replace}
use Rattle.surface.specs.Record.{Record}
use Rattle.standin.specs.StandIn.{counted, stand_in, moves}

-- a record that keeps a and removes b; what else it says is not read
step : ℕ → ℕ → Record
step a b = record { kept = a; removed = b; place_1 = 0; row_1 = row 0 0 0; place_2 = 0; row_2 = row 0 0 0 }

log : List Record
unfolding step
log = step 1 3 ∷ step 0 1 ∷ step 2 3 ∷ []

-- 1 stands in for 3, then 0 for 1; the last record finds 3 no longer standing for itself
chain : (stand_in 3 log ≡ 0) × (moves 3 log ≡ 2)
unfolding log step counted stand_in moves replace ℕ_discrete
chain = (refl, refl)

-- a corner that no record removes
untouched : (stand_in 2 log ≡ 2) × (moves 2 log ≡ 0)
unfolding log step counted stand_in moves replace ℕ_discrete
untouched = (refl, refl)

-- where kept and removed are both the stand-in, it stays and counts one
same : (stand_in 5 (step 5 5 ∷ []) ≡ 5) × (moves 5 (step 5 5 ∷ []) ≡ 1)
unfolding step counted stand_in moves replace ℕ_discrete
same = (refl, refl)
