use Prim.Native.Nat.{◌+◌}
use lib.ListN.{get_or}
use Rattle.around.proofs.Walking.{Walking}
use Rattle.around.proofs.walk.Given as goal

abbrev pub invariant-loop-x : goal.invariant-loop-x
invariant-loop-x l = Walking l.held l.start l.list l.mark l.v l.stamp (get_or l.start l.v 0 + l.x-index) l.k l.c l.ring
