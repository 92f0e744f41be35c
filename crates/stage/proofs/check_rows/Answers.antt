-- `check_rows` meets its contract.
use Rattle.surface.specs.Limits.{most_corners}
use Rattle.surface.specs.Rows.{rows}
use Rattle.slots.proofs.Marks.{no_mark}
use Rattle.numbers.proofs.Tests.{below_under}
use Rattle.faults.specs.Order.{row_refusals}
use Rattle.faults.proofs.Opposites.{below_or_not, twice_or_apart, twice_or_once, many_or_one_ring}
use Rattle.faults.proofs.Order.{refuse, refuse_9, past_9, pass}
use Rattle.refusal.proofs.Laws.{none_yet, ◌nor◌}
use Rattle.stage.proofs.Fits.{table_whole, table_some, under_most}
use native.Mathlib.Omega.{arith}
use Rattle.stage.proofs.check_rows.Goals as goal

pub not_below-requires : goal.not_below-requires
not_below-requires c = (table_whole c.requires.table)

pub returns-then-not_below : goal.returns-then-not_below
unfolding row_refusals
returns-then-not_below c =
    let args = c.args in
    refuse args.first args.n (rows args.t.now) none_yet (c.not_below.ensures.when_true c.if-not_below.true)

pub twice_in_row-requires : goal.twice_in_row-requires
twice_in_row-requires c =
    (table_whole c.requires.table)

pub returns-then-twice_in_row : goal.returns-then-twice_in_row
unfolding row_refusals
returns-then-twice_in_row c =
    let args = c.args in
    refuse args.first args.n (rows args.t.now) (below_or_not (c.not_below.ensures.when_false c.if-not_below.false) nor none_yet) (c.twice_in_row.ensures.when_true c.if-twice_in_row.true)

pub chains-requires : goal.chains-requires
chains-requires c =
    let pre = c.requires in
    record { under = under_most pre (c.not_below.ensures.when_false c.if-not_below.false); t_in_bounds = omega (arith, (table_whole c.requires.table).most); blank = record { blank = λ k. no_mark most_corners k } }

pub edge_twice-requires : goal.edge_twice-requires
edge_twice-requires c =
    let last2 = c.chains in
    let chains = c.chains in
    let pre = c.requires in
    record { whole = (table_whole c.requires.table); chained = chains.ensures; under = (below_under c.args.t.now (table_whole c.requires.table) c.args.n (c.not_below.ensures.when_false c.if-not_below.false)); n_le_most_corners = pre.count.many; n_in_bounds = omega (arith, last2.auto.last, pre.count.many); t_in_bounds = (table_whole c.requires.table).most }

pub returns-then-edge_twice : goal.returns-then-edge_twice
unfolding row_refusals
returns-then-edge_twice c =
    let edge-twice = c.edge_twice in
    let args = c.args in
    refuse args.first args.n (rows args.t.now) (below_or_not (c.not_below.ensures.when_false c.if-not_below.false) nor twice_or_apart (c.twice_in_row.ensures.when_false c.if-twice_in_row.false) nor none_yet) (edge-twice.ensures.when_true c.if-edge_twice.true)

pub reverse_missing-requires : goal.reverse_missing-requires
reverse_missing-requires c =
    let edge-twice = c.edge_twice in
    record { whole = (table_whole c.requires.table); under = (below_under c.args.t.now (table_whole c.requires.table) c.args.n (c.not_below.ensures.when_false c.if-not_below.false)); found_to = (edge-twice.ensures.when_false c.if-edge_twice.false).1 }

pub returns-then-reverse_missing : goal.returns-then-reverse_missing
unfolding row_refusals
returns-then-reverse_missing c =
    let reverse-missing = c.reverse_missing in
    let args = c.args in
    refuse args.first args.n (rows args.t.now) (below_or_not (c.not_below.ensures.when_false c.if-not_below.false) nor twice_or_apart (c.twice_in_row.ensures.when_false c.if-twice_in_row.false) nor twice_or_once (c.edge_twice.ensures.when_false c.if-edge_twice.false).0 nor none_yet) (reverse-missing.ensures.when_true c.if-reverse_missing.true)

pub first_unused-requires : goal.first_unused-requires
first_unused-requires c =
    let last2 = c.chains in
    let chains = c.chains in
    let pre = c.requires in
    record { whole = (table_whole c.requires.table); lasts = chains.ensures.heads; n_in_bounds = omega (arith, last2.auto.last, pre.count.many) }

pub returns-then-first_unused : goal.returns-then-first_unused
returns-then-first_unused c =
    let args = c.args in
    let found = c.first_unused.ensures.when_true c.if-first_unused.true in
    refuse_9 args.first args.n (rows args.t.now) (record { below = (c.not_below.ensures.when_false c.if-not_below.false); apart = (c.twice_in_row.ensures.when_false c.if-twice_in_row.false); once = (c.edge_twice.ensures.when_false c.if-edge_twice.false).0; both = (c.reverse_missing.ensures.when_false c.if-reverse_missing.false).0 }) found.0 found.1

pub many_rings-requires : goal.many_rings-requires
many_rings-requires c =
    let if4 = c.if-reverse_missing in
    let reverse-missing = c.reverse_missing in
    let last2 = c.chains in
    let chains = c.chains in
    let pre = c.requires in record { can_walk = record { whole = (table_whole c.requires.table); heads = chains.ensures.heads; back = (reverse-missing.ensures.when_false if4.false).1 }; n_in_bounds = omega (arith, last2.auto.last, pre.count.many); closed = (record { below = (c.not_below.ensures.when_false c.if-not_below.false); apart = (c.twice_in_row.ensures.when_false c.if-twice_in_row.false); once = (c.edge_twice.ensures.when_false c.if-edge_twice.false).0; both = (c.reverse_missing.ensures.when_false c.if-reverse_missing.false).0 }) }

pub returns-then-many_rings : goal.returns-then-many_rings
returns-then-many_rings c =
    let args = c.args in
    refuse args.first args.n (rows args.t.now) (past_9 args.first args.n (rows args.t.now) (record { below = (c.not_below.ensures.when_false c.if-not_below.false); apart = (c.twice_in_row.ensures.when_false c.if-twice_in_row.false); once = (c.edge_twice.ensures.when_false c.if-edge_twice.false).0; both = (c.reverse_missing.ensures.when_false c.if-reverse_missing.false).0 }) (c.first_unused.ensures.when_false c.if-first_unused.false) none_yet) (c.many_rings.ensures.when_true c.if-many_rings.true)

pub not_connected-requires : goal.not_connected-requires
not_connected-requires c =
    let last2 = c.chains in
    let chains = c.chains in
    let pre = c.requires in
    record { whole = (table_whole c.requires.table); chained = chains.ensures; under = under_most pre (c.not_below.ensures.when_false c.if-not_below.false); t_nonzero = table_some pre.table; most_corners_in_bounds = omega (arith, last2.auto.last, pre.count.many); both_ways = (c.reverse_missing.ensures.when_false c.if-reverse_missing.false).0 }

pub returns-then-not_connected : goal.returns-then-not_connected
returns-then-not_connected c =
    let if6 = c.if-many_rings in
    let many-rings = c.many_rings in
    let args = c.args in
    refuse args.first args.n (rows args.t.now)
    (past_9 args.first args.n (rows args.t.now) (record { below = (c.not_below.ensures.when_false c.if-not_below.false); apart = (c.twice_in_row.ensures.when_false c.if-twice_in_row.false); once = (c.edge_twice.ensures.when_false c.if-edge_twice.false).0; both = (c.reverse_missing.ensures.when_false c.if-reverse_missing.false).0 }) (c.first_unused.ensures.when_false c.if-first_unused.false) (many_or_one_ring (many-rings.ensures.when_false if6.false) nor none_yet))
    (c.not_connected.ensures.when_true c.if-not_connected.true)

pub returns : goal.returns
returns c =
    let if6 = c.if-many_rings in
    let many-rings = c.many_rings in
    let args = c.args in
    let pre = c.requires in
    pass args.first args.n (rows args.t.now) (record { below = (c.not_below.ensures.when_false c.if-not_below.false); apart = (c.twice_in_row.ensures.when_false c.if-twice_in_row.false); once = (c.edge_twice.ensures.when_false c.if-edge_twice.false).0; both = (c.reverse_missing.ensures.when_false c.if-reverse_missing.false).0 }) (c.first_unused.ensures.when_false c.if-first_unused.false) pre.table.count pre.count
    (many-rings.ensures.when_false if6.false) (c.not_connected.ensures.when_false c.if-not_connected.false)
