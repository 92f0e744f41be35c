use Prim.Native.Nat.{◌-◌}
use lib.ListN.{length}
use Rattle.logform.proofs.Passing.{Passing}
use Rattle.logreader.proofs.records_on.Given as goal

abbrev pub invariant-loop-k : goal.invariant-loop-k
invariant-loop-k l = Passing l.bytes l.initial.k l.k l.count

abbrev pub decreases-loop-k : goal.decreases-loop-k
decreases-loop-k l = length l.bytes - l.k
