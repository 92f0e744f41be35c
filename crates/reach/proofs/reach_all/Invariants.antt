use Rattle.reach.proofs.Growing.{Reaching}
use Prim.Native.Nat.{◌-◌}
use lib.ListN.{length}
use Rattle.reach.proofs.reach_all.Given as goal

abbrev pub invariant-loop-h : goal.invariant-loop-h
invariant-loop-h l = Reaching l.t l.m l.q l.h l.l

abbrev pub decreases-loop-h : goal.decreases-loop-h
decreases-loop-h l = length l.m - l.h
