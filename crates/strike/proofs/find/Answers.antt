-- Each of the two places is found, or still ahead (`Sought`).
use mathlib.Core.Path.{◌≡◌, sym, ◌∙◌, ap}
use Prim.Native.Nat.{ℕ}
use lib.ListN.{get_or}
use Rattle.surface.proofs.Flat.{at_place}
use Rattle.spots.specs.InnerHeld.{after_place}
use Rattle.strike.proofs.Loops.{sought_none, sought_more}
use native.Mathlib.Omega.{arith}
use Rattle.strike.proofs.find.Goals as goal

pub loop-place-init : goal.loop-place-init
loop-place-init c =
    let args = c.args in
    let both = c.requires.some_beside.both in
    (sought_none (λ (x : ℕ). get_or args.held.now x 0 ≡ args.u) args.ring.now 0 _ both.one_in both.one_is, sought_none (λ (x : ℕ). get_or args.held.now (after_place x) 0 ≡ args.u) args.ring.now 0 _ both.two_in both.two_is)

pub bounds-held-x : goal.bounds-held-x
bounds-held-x c = (c.requires.inside.slots (at_place c.args.ring.now c.loop-place.place-index 0 c.loop-place-test.true)).0

pub after-requires : goal.after-requires
after-requires c =
    let slot = c.requires.inside.slots (at_place c.args.ring.now c.loop-place.place-index 0 c.loop-place-test.true) in
    let most = c.requires.inside.most in
    (slot.1, let a = slot.0 in omega arith)

pub offset_bounds-held-after : goal.offset_bounds-held-after
offset_bounds-held-after c = omega (arith, c.after.ensures, (c.requires.inside.slots (at_place c.args.ring.now c.loop-place.place-index 0 c.loop-place-test.true)).3, c.requires.inside.most)

pub bounds-held-after : goal.bounds-held-after
bounds-held-after c = omega (arith, c.after.ensures, (c.requires.inside.slots (at_place c.args.ring.now c.loop-place.place-index 0 c.loop-place-test.true)).3)

pub loop-place-preserved : goal.loop-place-preserved
loop-place-preserved c =
    let args = c.args in
    let loop = c.loop-place in
    let h = c.loop-place-test.true in (
      sought_more (λ (x : ℕ). get_or args.held.now x 0 ≡ args.u) args.ring.now h (λ q. q) (λ n q. n q) c.pick-one.ensures loop.invariant.0,
      sought_more (λ (x : ℕ). get_or args.held.now (after_place x) 0 ≡ args.u) args.ring.now h (λ q. ap (λ (z : ℕ). get_or args.held.now z 0) (sym c.after.ensures) ∙ q) (λ n q. n (ap (λ (z : ℕ). get_or args.held.now z 0) c.after.ensures ∙ q)) c.pick-two.ensures loop.invariant.1,
    )
