use Prim.Native.Nat.{◌-◌}
use Rattle.surface.specs.Limits.{most_corners}
use Rattle.surface.specs.Rows.{rows}
use Rattle.neighbours.specs.Around.{Unmarked}
use Rattle.least.specs.Limited.{Allowed}
use Rattle.least.proofs.Rising.{Trying}
use Rattle.least.proofs.least_marked.Given as goal

abbrev pub invariant-loop-b : goal.invariant-loop-b
invariant-loop-b l = Unmarked l.far × Trying (Allowed l.bound l.xs) (rows l.t) l.a.0 l.past

abbrev pub decreases-loop-b : goal.decreases-loop-b
decreases-loop-b l = most_corners - l.past
