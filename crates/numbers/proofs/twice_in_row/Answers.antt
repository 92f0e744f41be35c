-- `twice_in_row` meets its contract.
use Rattle.std.proofs.Common.{arith}
use Rattle.refusal.proofs.Tells.{tells_true, tells_false}
use Rattle.numbers.proofs.Tests.{twice_at, apart_all}
use Rattle.numbers.proofs.twice_in_row.Goals as goal

pub returns-then-t-e : goal.returns-then-t-e
returns-then-t-e c = tells_true (twice_at c.args.t.now c.requires c.loop-e.e c.loop-e-test.true (cc))

pub returns : goal.returns
returns c = tells_false (apart_all c.args.t.now c.requires (λ e h. c.loop-e.invariant e (omega arith)))
