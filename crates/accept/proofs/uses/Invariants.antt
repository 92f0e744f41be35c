use mathlib.Core.Logic.{◌≢◌}
use Prim.Native.Nat.{ℕ, ◌<◌}
use lib.ListN.{get_or}
use Rattle.surface.specs.Rows.{rows}
use Rattle.surface.specs.Table.{Used}
use Rattle.refusal.specs.InnerTells.{Tells}
use Rattle.accept.proofs.uses.Given as goal

abbrev pub invariant-loop-x : goal.invariant-loop-x
invariant-loop-x l = Tells l.found (Used (rows l.t) l.v.0) ((k : ℕ) → k < l.x-index → get_or l.t k 0 ≢ l.v.0)
