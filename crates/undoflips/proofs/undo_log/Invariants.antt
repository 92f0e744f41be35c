use Rattle.undoflips.proofs.Going.{Going}
use Rattle.undoflips.proofs.undo_log.Given as goal

abbrev pub invariant-loop-done : goal.invariant-loop-done
invariant-loop-done l = Going l.initial.table l.log l.done l.table l.last l.prev
