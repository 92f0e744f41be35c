use mathlib.Core.Path.{◌≡◌}
use lib.ListN.{length}
use Rattle.slots.proofs.Chain.{Filling}
use Rattle.slots.proofs.chains.Given as goal

abbrev pub invariant-loop-i : goal.invariant-loop-i
invariant-loop-i l = (length l.last ≡ length l.initial.last) × (length l.prev ≡ length l.initial.prev) × Filling l.t l.last l.prev l.i
