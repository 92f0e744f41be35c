use Rattle.nest.proofs.Adding.{Added}
use Rattle.nest.proofs.+net_of_solid_net_of_void.Given as goal

-- the depth left, of either
abbrev pub decreases-net_of_solid : goal.decreases-net_of_solid
decreases-net_of_solid l = l.left

abbrev pub decreases-net_of_void : goal.decreases-net_of_void
decreases-net_of_void l = l.left

-- ---- the net of a solid

abbrev pub invariant-net_of_solid-loop-k : goal.invariant-net_of_solid-loop-k
invariant-net_of_solid-loop-k l = Added l.entries l.i l.left l.k l.voids

-- ---- the net of a void

abbrev pub invariant-net_of_void-loop-k : goal.invariant-net_of_void-loop-k
invariant-net_of_void-loop-k l = Added l.entries l.i l.left l.k l.solids
