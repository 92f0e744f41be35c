-- `put_rows` meets its contract.
use Rattle.flip.proofs.Rowwise.{inside, put_two}
use native.Mathlib.Omega.{arith}
use Rattle.flip.proofs.put_rows.Goals as goal

pub put_row-requires-clause-place_in_bounds : goal.put_row-requires-clause-place_in_bounds
put_row-requires-clause-place_in_bounds c = inside c.args.t.now c.requires.in_chains.whole c.args.r.second.place.0 c.requires.place_in_bounds_2.0

pub put_row-requires-2-clause-place_in_bounds : goal.put_row-requires-2-clause-place_in_bounds
put_row-requires-2-clause-place_in_bounds c = omega (arith, inside c.args.t.now c.requires.in_chains.whole c.args.r.first.place.0 c.requires.place_in_bounds.0, c.put_row.auto.t)

pub returns-clause-t_after : goal.returns-clause-t_after
returns-clause-t_after c = put_two c.args.t.now _ _ c.args.r c.put_row.ensures.t_after c.put_row-2.ensures.t_after c.requires.place_in_bounds.0 c.requires.place_in_bounds_2.0
