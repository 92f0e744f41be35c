use Prim.Native.Nat.{◌-◌}
use lib.ListN.{length}
use Rattle.logform.proofs.Passing.{Passing}
use Rattle.logform.proofs.lines_left.Given as goal

abbrev pub invariant-loop-here : goal.invariant-loop-here
invariant-loop-here l = Passing l.s l.fn.from.at l.here.at l.count

abbrev pub decreases-loop-here : goal.decreases-loop-here
decreases-loop-here l = length l.s - l.here.at
