-- `walk_all` meets its contract.
use mathlib.Core.Path.{◌≡◌, sym}
use Rattle.rings.proofs.Walking.{walks_more}
use native.Mathlib.Omega.{arith}
use Rattle.rings.proofs.walk_all.Goals as goal

pub loop-v-preserved : goal.loop-v-preserved
loop-v-preserved c = walks_more c.args.t.now c.args.last.now c.args.reverse.now c.requires.can_walk c.loop-v.m _ c.loop-v.v c.loop-v.invariant c.walk.ensures

pub returns : goal.returns
returns c =
    let e : c.loop-v.v ≡ c.args.n = omega arith in
    rw (sym e) c.loop-v.invariant
