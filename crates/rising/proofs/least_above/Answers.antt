-- `least_above` meets its contract.
use mathlib.Core.Path.{◌∙◌}
use Rattle.surface.specs.Limits.{most_corners}
use Rattle.rising.proofs.Rising.{all_looked_at}
use Rattle.rising.proofs.least_above.Goals as goal

pub returns : goal.returns
returns c = c.then_some.ensures ∙ all_looked_at c.args.past most_corners c.loop-w.least c.loop-w.w-index c.args.ring.now c.requires c.loop-w-test.false c.loop-w.invariant.1
