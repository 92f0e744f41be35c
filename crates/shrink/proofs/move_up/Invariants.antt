use mathlib.Core.Path.{◌≡◌}
use mathlib.Core.List.{◌++◌}
use Prim.Native.Nat.{◌*◌, ◌≤◌}
use lib.ListN.{take, drop}
use Rattle.shrink.specs.Flat.{after}
use Rattle.shrink.proofs.move_up.Given as goal

abbrev pub invariant-loop-row : goal.invariant-loop-row
invariant-loop-row l = (l.j ≤ 3 * l.row) × (take l.j l.t ++ after l.a l.b (drop (3 * l.row) l.t) ≡ after l.a l.b l.initial.t)
