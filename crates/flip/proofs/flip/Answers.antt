-- `flip` meets its contract.
use mathlib.Core.Path.{refl, sym}
use Rattle.flip.proofs.Flipping.{stage_chains, edge_missing, reverse_found, edge_blocked, flip_logs, place_inside, found_as, first_small, third_small}
use Rattle.flip.proofs.flip.Goals as goal

pub slot_of-requires : goal.slot_of-requires
slot_of-requires c = stage_chains c.requires.charted c.requires.most_corners_in_bounds

pub returns-in_default-clause-tries : goal.returns-in_default-clause-tries
returns-in_default-clause-tries c = edge_missing c.requires.charted c.in_default.ensures

pub returns-in_default-clause-in_chains : goal.returns-in_default-clause-in_chains
returns-in_default-clause-in_chains c = stage_chains c.requires.charted c.requires.most_corners_in_bounds

pub slot_of-requires-2 : goal.slot_of-requires-2
slot_of-requires-2 c = stage_chains c.requires.charted c.requires.most_corners_in_bounds

pub unwrap-y-requires : goal.unwrap-y-requires
unwrap-y-requires c = reverse_found c.requires.charted c.in-Some.ensures c.slot_of-2.result c.slot_of-2.ensures

pub slot_of-requires-3 : goal.slot_of-requires-3
slot_of-requires-3 c = stage_chains c.requires.charted c.requires.most_corners_in_bounds

pub returns-then-is_some-clause-tries : goal.returns-then-is_some-clause-tries
returns-then-is_some-clause-tries c =
    let g = rw c.unwrap-y.ensures at c.slot_of-2.ensures in
    edge_blocked c.requires.charted c.in-Some.ensures g c.slot_of-3.result (found_as c.args.t.now _ c.third_of-c.ensures c.third_of-d.ensures c.slot_of-3.ensures) (sym c.if-is_some.ensures)

pub returns-then-is_some-clause-in_chains : goal.returns-then-is_some-clause-in_chains
returns-then-is_some-clause-in_chains c = stage_chains c.requires.charted c.requires.most_corners_in_bounds

pub put_rows-requires-clause-in_chains : goal.put_rows-requires-clause-in_chains
put_rows-requires-clause-in_chains c = stage_chains c.requires.charted c.requires.most_corners_in_bounds

pub put_rows-requires-clause-place_in_bounds : goal.put_rows-requires-clause-place_in_bounds
put_rows-requires-clause-place_in_bounds c =
    let t = c.args.t.now in
    let k = stage_chains c.requires.charted c.requires.most_corners_in_bounds in
    let f = c.in-Some.ensures in
    let g = rw c.unwrap-y.ensures at c.slot_of-2.ensures in
    rw c.new_rows.ensures (rw c.row_at.ensures.place (place_inside t k.whole f), record { a = rw c.third_of-c.ensures (third_small t k.whole f k.under); b = first_small t k.whole f k.under; c = rw c.third_of-d.ensures (third_small t k.whole g k.under) })

pub put_rows-requires-clause-place_in_bounds_2 : goal.put_rows-requires-clause-place_in_bounds_2
put_rows-requires-clause-place_in_bounds_2 c =
    let t = c.args.t.now in
    let k = stage_chains c.requires.charted c.requires.most_corners_in_bounds in
    let f = c.in-Some.ensures in
    let g = rw c.unwrap-y.ensures at c.slot_of-2.ensures in
    rw c.new_rows.ensures (rw c.row_at-2.ensures.place (place_inside t k.whole g), record { a = rw c.third_of-c.ensures (third_small t k.whole f k.under); b = rw c.third_of-d.ensures (third_small t k.whole g k.under); c = first_small t k.whole g k.under })

pub returns-clause-tries : goal.returns-clause-tries
returns-clause-tries c =
    let g = rw c.unwrap-y.ensures at c.slot_of-2.ensures in
    flip_logs c.requires.charted c.in-Some.ensures g c.row_at.result c.row_at-2.result c.row_at.ensures c.row_at-2.ensures
    c.slot_of-3.result (found_as c.args.t.now _ c.third_of-c.ensures c.third_of-d.ensures c.slot_of-3.ensures) (sym c.if-is_some.ensures)
    _ refl refl c.third_of-c.ensures c.third_of-d.ensures (rw c.new_rows.ensures at c.put_rows.ensures.t_after)
