use Rattle.regrow.proofs.Undoing.{Undone}
use Rattle.regrow.proofs.grow_log.Given as goal

abbrev pub invariant-loop-done : goal.invariant-loop-done
invariant-loop-done l = Undone l.corners l.rows l.initial.room l.log l.done l.room
