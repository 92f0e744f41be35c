use lib.ListN.{take}
use Rattle.around.specs.InnerRing.{next_to}
use Rattle.around.specs.InnerMeeting.{Met}
use Rattle.around.proofs.meet.Given as goal

abbrev pub invariant-loop-x : goal.invariant-loop-x
invariant-loop-x l = Met l.u l.but (take l.x-index (next_to l.held l.ring)) l.initial.mark l.initial.waiting l.mark l.waiting
