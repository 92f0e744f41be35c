-- `edge_twice` meets its contract.
use mathlib.Core.Path.{◌≡◌, refl, sym, ◌∙◌}
use Rattle.surface.specs.Limits.{most_corners}
use Rattle.slots.proofs.Marks.{no_mark}
use Rattle.refusal.proofs.Tells.{tells_false}
use Rattle.edges.proofs.Sweep.{sweep_none, sweep_more, sweep_once}
use native.Mathlib.Omega.{arith}
use Rattle.edges.proofs.edge_twice.Goals as goal

pub loop-u-init : goal.loop-u-init
loop-u-init c = (refl, sweep_none c.args.t.now _ c.args.reverse.now c.requires.whole.threes (record { blank = λ k. no_mark most_corners k }) c.requires.t_in_bounds)

pub loop-u-preserved : goal.loop-u-preserved
loop-u-preserved c =
    let loop = c.loop-u in
    let i = loop.invariant in
    let g = c.enter.ensures.when_false c.if-enter.false in
    (c.enter.auto.ends ∙ i.0, sweep_more c.args.t.now loop.ends loop.reverse _ _ loop.u c.requires.whole.threes i.1 g.0 g.1 c.find.ensures)

pub returns : goal.returns
returns c =
    let loop = c.loop-u in
    let i = loop.invariant in
    let e : loop.u ≡ c.args.n = omega arith in
    tells_false (sweep_once c.args.t.now loop.ends loop.reverse c.args.n loop.u c.requires.whole c.requires.under (omega arith) i.1, rw (sym e) i.1.back)
