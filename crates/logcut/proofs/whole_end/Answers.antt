-- `whole_end` meets its contract: it looks for the last newline from the end.
use Rattle.logcut.proofs.Ending.{none_after_end, other_there}
use Rattle.logcut.proofs.whole_end.Goals as goal

pub loop-i-init : goal.loop-i-init
loop-i-init c = none_after_end c.args.bytes.now

pub loop-i-preserved : goal.loop-i-preserved
loop-i-preserved c = other_there c.loop-i.invariant c.loop-i-test.true c.if-bytes-i-eq10.false
