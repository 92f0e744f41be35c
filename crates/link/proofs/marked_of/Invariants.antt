use Prim.Native.Nat.{◌≤◌}
use mathlib.Core.Logic.{◌≢◌}
use lib.ListN.{get_or}
use Rattle.surface.specs.Lists.{Exactly}
use Rattle.link.proofs.Tally.{Among}
use Rattle.link.proofs.marked_of.Given as goal

abbrev pub invariant-loop-w : goal.invariant-loop-w
invariant-loop-w l = (l.k ≤ l.w-index) × Exactly (Among (λ w. get_or l.marks w 0 ≢ 0) l.ring l.w-index) l.k
