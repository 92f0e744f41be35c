-- `uses` meets its contract.
use borrow.Author.Count.{below_more}
use Rattle.refusal.proofs.Tells.{tells_true}
use Rattle.accept.proofs.Holding.{held_used, not_held}
use native.Mathlib.Omega.{arith}
use Rattle.accept.proofs.uses.Goals.{then-x-v, else-x-v}
use Rattle.accept.proofs.uses.Goals as goal

pub loop-x-preserved : goal.loop-x-preserved
loop-x-preserved c =
    elim c.if-x-v.branch [
      | then-x-v w ↦ rw w.found-is (tells_true (held_used c.args.t.now c.requires c.args.v.0 c.loop-x.x-index (omega arith) w.if-x-v.true))
      | else-x-v w ↦ rw w.found-is (record { when_true = c.loop-x.invariant.when_true; when_false = λ z. below_more _ _ (c.loop-x.invariant.when_false z) w.if-x-v.false })
    ]

pub returns : goal.returns
returns c =
    record { when_true = c.loop-x.invariant.when_true; when_false = λ z. not_held c.args.t.now c.requires c.args.v.0 (λ k h. c.loop-x.invariant.when_false z k (omega arith)) }
