-- Slot by slot (`Renaming`).
use Rattle.surface.proofs.Flat.{at_place}
use Rattle.strike.proofs.Loops.{rename_more}
use native.Mathlib.Omega.{arith}
use Rattle.strike.proofs.rename.Goals as goal

pub own_place-requires : goal.own_place-requires
own_place-requires c =
    let slot = c.requires.slots (at_place c.args.ring.now c.loop-x.x-index 0 c.loop-x-test.true) in
    let most = c.requires.most in
    (slot.1, let a = slot.0 in omega arith)

pub offset_bounds-held-own_place : goal.offset_bounds-held-own_place
offset_bounds-held-own_place c = omega (arith, c.own_place.ensures, (c.requires.slots (at_place c.args.ring.now c.loop-x.x-index 0 c.loop-x-test.true)).2, c.requires.most)

pub bounds-held-own_place : goal.bounds-held-own_place
bounds-held-own_place c = omega (arith, c.own_place.ensures, (c.requires.slots (at_place c.args.ring.now c.loop-x.x-index 0 c.loop-x-test.true)).2)

pub loop-x-preserved : goal.loop-x-preserved
loop-x-preserved c = rw c.own_place.ensures (rename_more c.loop-x-test.true c.requires c.loop-x.invariant)
