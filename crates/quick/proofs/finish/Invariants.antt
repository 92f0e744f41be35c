use Prim.Native.Nat.{◌+◌, ◌-◌, ◌*◌}
use Rattle.surface.specs.Limits.{most_corners}
use Rattle.waiting.specs.InnerWaiting.{waiters}
use Rattle.quick.specs.InnerRound.{AtOpenCorner, Progress}
use Rattle.quick.proofs.finish.Given as goal

abbrev pub invariant-loop-v : goal.invariant-loop-v
invariant-loop-v l = AtOpenCorner l.n l.held l.work.start l.work.list l.work.mark l.work.waiting l.work.sub l.work.sup l.log l.u l.total l.d × Progress l.u l.initial.held l.initial.log l.done l.d l.held l.log

abbrev pub decreases-loop-v : goal.decreases-loop-v
decreases-loop-v l = (l.total - 2 * l.d) * (most_corners + 1) + waiters l.work.waiting most_corners
