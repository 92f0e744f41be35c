use lib.ListN.{length}
use Rattle.surface.specs.Rows.{rows}
use Rattle.growth.proofs.Walked.{fan}
use Rattle.grow.proofs.Walking.{Walking}
use Rattle.grow.proofs.rename.Given as goal

abbrev pub invariant-loop-p : goal.invariant-loop-p
invariant-loop-p l = Walking l.initial.t l.r.kept.0 l.r.removed.0 l.x.0 l.initial.p l.t l.p

abbrev pub decreases-loop-p : goal.decreases-loop-p
decreases-loop-p l = length (fan (rows l.initial.t) l.r.kept.0 l.x.0 l.p)
