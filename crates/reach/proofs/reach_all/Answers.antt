-- `reach_all` meets its contract.
use Rattle.reach.proofs.Growing.{reach_none, reach_more, reach_end}
use Rattle.reach.proofs.reach_all.Goals as goal

pub loop-h-init : goal.loop-h-init
loop-h-init c =
    let pre = c.requires in
    reach_none c.args.t.now pre.whole c.args.m.now c.args.q.now pre.blank pre.m_in_bounds_2 (pre.under.under 0 pre.t_nonzero)

pub loop-h-preserved : goal.loop-h-preserved
loop-h-preserved c = reach_more c.args.t.now c.requires.whole c.loop-h.m c.loop-h.q c.loop-h.h c.loop-h.l _ _ _ c.loop-h-test.true c.loop-h.invariant c.reach_next-l.ensures

pub returns : goal.returns
returns c = reach_end c.args.t.now c.requires.whole c.loop-h.m c.loop-h.q c.loop-h.h c.loop-h.l c.loop-h-test.false c.requires.t_nonzero c.loop-h.invariant
