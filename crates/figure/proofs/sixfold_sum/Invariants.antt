use Prim.Native.Nat.{◌*◌}
use Rattle.figure.proofs.Turn.{Summing}
use Rattle.figure.proofs.sixfold_sum.Given as goal

abbrev pub invariant-loop-a : goal.invariant-loop-a
invariant-loop-a l = Summing l.t l.xs l.s (3 * l.a-index)
