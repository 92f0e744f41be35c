-- The stand-in of a corner, and its count. Of a record only kept and removed are read.
use Rattle.std.proofs.Math.Logic.{ite}
use Rattle.std.specs.Prelude.{List, [], ◌∷◌, ℕ, ◌+◌}
use Rattle.std.proofs.Math.Decide.{ℕ_discrete}
use Rattle.surface.specs.Contract.{replace}
use Rattle.surface.specs.Record.{Record}

-- a record whose removed number is the stand-in makes it the kept one
abbrev pub onward : ℕ → Record → ℕ
onward v k = replace k.kept k.removed v

-- and counts one
unfoldable pub counted : ℕ → Record → ℕ
counted v k = ite {C = ℕ} (ℕ_discrete v k.removed) 1 0

-- the stand-in of a corner starts as itself
unfoldable pub stand_in : ℕ → List Record → ℕ
stand_in v [] = v
stand_in v (k ∷ l) = stand_in (onward v k) l

-- and the count at none
unfoldable pub moves : ℕ → List Record → ℕ
moves v [] = 0
moves v (k ∷ l) = counted v k + moves (onward v k) l
