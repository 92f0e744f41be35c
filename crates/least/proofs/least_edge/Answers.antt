-- `least_edge` meets its contract.
use Rattle.surface.specs.Rows.{rows}
use Rattle.least.specs.Limited.{Allowed}
use Rattle.least.proofs.Corners.{none_left}
use native.Mathlib.Omega.{arith}
use Rattle.least.proofs.least_edge.Goals as goal

pub returns-clause-found_least : goal.returns-clause-found_least
returns-clause-found_least c =
    none_left (Allowed c.args.bound c.args.xs.now) (rows c.args.t.now) c.loop-a.a c.loop-a.invariant.1 c.args.n c.requires.searchable.table.stage (omega arith)
