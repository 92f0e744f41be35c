use Rattle.std.proofs.Common.{◌≢◌, ℕ, ◌<◌, get_or}
use Rattle.slots.specs.Slot.{next_slot}
use Rattle.numbers.proofs.twice_in_row.Given as goal

abbrev pub invariant-loop-e : goal.invariant-loop-e
invariant-loop-e l = (k : ℕ) → k < l.e → get_or l.t k 0 ≢ get_or l.t (next_slot k) 0
