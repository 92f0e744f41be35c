use mathlib.Core.Path.{◌≡◌}
use lib.ListN.{length}
use Rattle.noted.specs.Noted.{NotedTo}
use Rattle.noted.proofs.note_round.Given as goal

abbrev pub invariant-loop-e : goal.invariant-loop-e
invariant-loop-e l = (length l.at ≡ length l.initial.at) × NotedTo l.t l.kept.0 l.e l.at
