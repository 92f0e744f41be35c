use Prim.Native.Nat.{◌-◌}
use lib.ListN.{length}
use Rattle.jobform.proofs.Keeping.{Reading}
use Rattle.jobform.proofs.read_entries.Given as goal

abbrev pub invariant-loop-k : goal.invariant-loop-k
invariant-loop-k l = Reading l.s l.entries l.initial.k l.k l.count

abbrev pub decreases-loop-k : goal.decreases-loop-k
decreases-loop-k l = length l.s - l.k
