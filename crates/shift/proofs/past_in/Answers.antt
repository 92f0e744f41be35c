-- `past_in` meets its contract: every record below place j has both its numbers below the count.
use Rattle.refusal.proofs.Tells.{tells_true, tells_false}
use Rattle.shift.proofs.Checking.{past_kept, past_removed, all_below}
use native.Mathlib.Omega.{arith}
use Rattle.shift.proofs.past_in.Goals as goal
use Rattle.shift.proofs.past_in.Goals.{then-n-e-via-then-n-e, then-n-e-via-else-n-e+then-n-e-2}

pub returns-then-n-e : goal.returns-then-n-e
returns-then-n-e c = elim c.then-n-e.branch [
  | then-n-e-via-then-n-e w ↦ tells_true (past_kept c.args.log.now c.args.n c.loop-j.j (omega arith) (omega arith))
  | then-n-e-via-else-n-e+then-n-e-2 w ↦ tells_true (past_removed c.args.log.now c.args.n c.loop-j.j (omega arith) (omega arith))
]

pub returns : goal.returns
returns c = tells_false (all_below c.args.log.now c.args.n (λ i h. c.loop-j.invariant i (omega arith)))
