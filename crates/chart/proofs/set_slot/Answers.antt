-- `set_slot` meets its contract.
use mathlib.Core.List.{List}
use Prim.Native.Nat.{ℕ, ◌+◌}
use mathlib.Core.Path.{◌∙◌, ap}
use Rattle.chart.specs.Links.{hung_last, hung_prev}
use Rattle.chart.proofs.Linking.{link_upto, number_set}
use native.Mathlib.Omega.{arith}
use Rattle.chart.proofs.set_slot.Goals as goal

pub hanging-down-requires-clause-x_in_bounds : goal.hanging-down-requires-clause-x_in_bounds
hanging-down-requires-clause-x_in_bounds c = omega (arith, link_upto c.args.t.now c.args.w.0 _ c.above-y.ensures.link, c.requires.in_chains.chained.room)

pub hang-requires-clause-x_in_bounds : goal.hang-requires-clause-x_in_bounds
hang-requires-clause-x_in_bounds c = omega (arith, link_upto c.args.t.now _ _ c.above-x.ensures.link, c.requires.in_chains.chained.room)

pub hang-requires-2-clause-x_in_bounds : goal.hang-requires-2-clause-x_in_bounds
hang-requires-2-clause-x_in_bounds c = omega (arith, link_upto c.args.t.now c.args.w.0 _ c.above-y.ensures.link, c.hang.auto.prev, c.requires.in_chains.chained.room)

pub returns-clause-in_chains_2 : goal.returns-clause-in_chains_2
returns-clause-in_chains_2 c =
    let w = c.args.w.0 in
    let e = c.args.e in
    let y = c.above-y.result in
    let pre = c.requires in
    rw (c.hang-2.ensures.last_after ∙ ap (λ (l : List ℕ). hung_last l w y (e + 1)) c.hang.ensures.last_after, c.hang-2.ensures.prev_after ∙ ap (λ (l : List ℕ). hung_prev l y (e + 1)) c.hang.ensures.prev_after, c.hanging-down.ensures)
    (number_set c.args.t.now c.args.last.now c.args.prev.now e w pre.in_chains pre.e_in_bounds pre.w_in_bounds c.above-x.result y c.if-from-to.false c.above-x.ensures c.above-y.ensures)
