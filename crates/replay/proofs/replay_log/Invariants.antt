use Rattle.replay.proofs.Redoing.{Redone}
use Rattle.replay.proofs.replay_log.Given as goal

abbrev pub invariant-loop-done : goal.invariant-loop-done
invariant-loop-done l = Redone l.n l.initial.table l.log l.done l.table
