use Rattle.fliplist.specs.Inner.{FlipReady}
use Rattle.fliplist.proofs.Going.{Going}
use Rattle.fliplist.proofs.flip_edges.Given as goal

abbrev pub invariant-loop-done : goal.invariant-loop-done
invariant-loop-done l = (g : FlipReady l.initial.table l.edges l.initial.log) × Going g.corners l.initial.table l.edges l.initial.log l.done l.table l.log l.last l.prev
