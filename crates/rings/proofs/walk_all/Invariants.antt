use Rattle.rings.specs.Walk.{AllWalked}
use Rattle.rings.proofs.walk_all.Given as goal

abbrev pub invariant-loop-v : goal.invariant-loop-v
invariant-loop-v l = AllWalked l.t l.last l.reverse l.m l.v
