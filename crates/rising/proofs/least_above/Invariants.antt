use Rattle.std.proofs.Common.{◌≡◌, ◌≤◌, min, nat_lt, drop}
use Rattle.std.specs.List.{fold, filter}
use Rattle.surface.specs.Limits.{most_corners}
use Rattle.rising.proofs.least_above.Given as goal

-- the numbers that are still to come leave of least what all of them leave of none
abbrev pub invariant-loop-w : goal.invariant-loop-w
invariant-loop-w l = (l.least ≤ most_corners) × (fold min l.least (filter (λ w. nat_lt l.past w) (drop l.w-index l.ring)) ≡ fold min most_corners (filter (λ w. nat_lt l.past w) l.ring))
