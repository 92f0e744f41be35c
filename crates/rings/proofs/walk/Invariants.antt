use Rattle.slots.specs.Marks.{zeros}
use Rattle.rings.proofs.Walking.{Walking}
use Rattle.rings.proofs.walk.Given as goal

abbrev pub invariant-loop-m : goal.invariant-loop-m
invariant-loop-m l = Walking l.t l.last l.reverse l.initial.m l.m l.v l.e

abbrev pub decreases-loop-m : goal.decreases-loop-m
decreases-loop-m l = zeros l.m
