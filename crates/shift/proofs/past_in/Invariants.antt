use Prim.Native.Nat.{ℕ, ◌<◌}
use Rattle.shift.proofs.Checking.{Both}
use Rattle.shift.proofs.past_in.Given as goal

abbrev pub invariant-loop-j : goal.invariant-loop-j
invariant-loop-j l = (i : ℕ) → i < l.j → Both l.n l.log i
