-- `least_marked` meets its contract.
use mathlib.Core.Path.{refl}
use Rattle.neighbours.proofs.Marking.{edge_below}
use Rattle.least.proofs.Limiting.{measured_at}
use Rattle.least.proofs.Rising.{try_least, try_more, try_end}
use native.Mathlib.Omega.{arith}
use Rattle.least.proofs.least_marked.Goals as goal

pub allowed-requires : goal.allowed-requires
allowed-requires c =
    let args = c.args in
    let pre = c.requires in
    let s = pre.searchable_at.searchable in
    let b = edge_below s.table.stage (pre.neighbours.0.only c.in-Some.ensures.stands) in
    (measured_at args.bound _ args.xs.now args.a.0 pre.searchable_at.below s.measured, measured_at args.bound _ args.xs.now c.in-Some.b b s.measured)

pub meets_round-requires-clause-b_in_bounds : goal.meets_round-requires-clause-b_in_bounds
meets_round-requires-clause-b_in_bounds c =
    let s = c.requires.searchable_at.searchable in
    omega (arith, s.room, edge_below s.table.stage (c.requires.neighbours.0.only c.in-Some.ensures.stands))

pub returns-then-meets_round-clause-found_at : goal.returns-then-meets_round-clause-found_at
returns-then-meets_round-clause-found_at c =
    let ring = c.requires.neighbours.0 in
    let g = c.loop-b.invariant.1 in
    let next = c.in-Some.ensures in
    let told = c.meets_round.ensures.tells_edge c.args.a.0 ring in
    (refl, record { rises = omega (arith, g.from, next.above); meets = told.when_true c.if-meets_round.true; allowed = c.allowed.ensures.when_true c.if-allowed.true }, try_least ring g next)

pub loop-b-preserved-else-meets_round : goal.loop-b-preserved-else-meets_round
loop-b-preserved-else-meets_round c =
    let ring = c.requires.neighbours.0 in
    let told = c.meets_round.ensures.tells_edge c.args.a.0 ring in
    (c.meets_round.ensures.unmarked_2, try_more ring c.loop-b.invariant.1 c.in-Some.ensures (λ q. told.when_false c.if-meets_round.false q.meets))

pub loop-b-preserved : goal.loop-b-preserved
loop-b-preserved c =
    (c.loop-b.invariant.0, try_more c.requires.neighbours.0 c.loop-b.invariant.1 c.in-Some.ensures (λ q. c.allowed.ensures.when_false c.if-allowed.false q.allowed))

pub returns-clause-found_at : goal.returns-clause-found_at
returns-clause-found_at c = try_end c.requires.neighbours.0 c.loop-b.invariant.1 c.in_default.ensures
