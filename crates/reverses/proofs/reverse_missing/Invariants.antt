use Rattle.reverses.proofs.Back.{Settling}
use Rattle.reverses.proofs.reverse_missing.Given as goal

abbrev pub invariant-loop-e : goal.invariant-loop-e
invariant-loop-e l = Settling l.t l.reverse l.e
