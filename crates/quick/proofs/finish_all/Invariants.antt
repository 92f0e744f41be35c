use Rattle.quick.specs.InnerGround.{BeforeCorner}
use Rattle.quick.specs.InnerRound.{AllDone}
use Rattle.quick.proofs.finish_all.Given as goal

abbrev pub invariant-loop-u : goal.invariant-loop-u
invariant-loop-u l = BeforeCorner l.n l.held l.work.start l.work.list l.work.mark l.work.waiting l.work.sub l.work.sup l.log l.u l.total l.d × AllDone l.n l.u l.initial.held l.initial.log l.held l.log l.done l.d
