use mathlib.Core.Path.{◌≡◌}
use lib.ListN.{length}
use Rattle.surface.specs.Limits.{most_corners}
use Rattle.edges.proofs.Sweep.{Sweeping}
use Rattle.edges.proofs.edge_twice.Given as goal

abbrev pub invariant-loop-u : goal.invariant-loop-u
invariant-loop-u l = (length l.ends ≡ most_corners) × Sweeping l.t l.ends l.reverse l.u
