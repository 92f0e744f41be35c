use mathlib.Core.Path.{◌≡◌}
use Prim.Native.Nat.{◌≤◌}
use lib.ListN.{length, take}
use Rattle.neighbours.proofs.Gathering.{Listing}
use Rattle.neighbours.proofs.gather.Given as goal

abbrev pub invariant-loop-x : goal.invariant-loop-x
invariant-loop-x l = (length l.ring ≡ length l.initial.ring) × (l.k ≤ length l.ring) × Listing l.t l.corner l.x (take l.k l.ring)

abbrev pub decreases-loop-x : goal.decreases-loop-x
decreases-loop-x l = l.x
