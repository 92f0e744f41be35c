-- Corner by corner (`AllDone`).
use Rattle.quick.proofs.Finishing.{none_done, one_done}
use Rattle.quick.proofs.finish_all.Goals as goal

pub loop-u-init : goal.loop-u-init
loop-u-init c = (c.requires, none_done c.requires)

pub loop-u-preserved : goal.loop-u-preserved
loop-u-preserved c = (c.finish-d.ensures.before, one_done c.loop-u.invariant.1 c.finish-d.ensures)
