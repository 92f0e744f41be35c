-- `meets_round` meets its contract.
use Rattle.refusal.proofs.Tells.{tells_false}
use Rattle.link.proofs.Condition.{four_rows, two_common}
use Rattle.neighbours.proofs.Marking.{neighbours_corners}
use native.Mathlib.Omega.{arith}
use Rattle.link.proofs.meets_round.Goals as goal

pub returns-then-t-le-FOUR_ROWS : goal.returns-then-t-le-FOUR_ROWS
returns-then-t-le-FOUR_ROWS c =
    let if1 = c.if-t-le-FOUR_ROWS in
    let args = c.args in
    let pre = c.requires in
    record { tells_edge = (λ a f. let h = if1.true in tells_false (four_rows args.t.now pre.charted.table (omega arith))); unmarked_2 = pre.unmarked }

pub common-requires : goal.common-requires
common-requires c =
    let args = c.args in
    let pre = c.requires in
    let lists = c.gather-k.ensures.lists in
    record { distinct = (pre.distinct.0, lists.distinct); marked = (pre.marked, neighbours_corners args.t.now pre.charted.table lists); unmarked = pre.unmarked }

pub returns : goal.returns
returns c =
    let if1 = c.if-t-le-FOUR_ROWS in
    let args = c.args in
    let pre = c.requires in
    let gather = c.gather-k in
    let common = c.common in
    record { tells_edge = (λ a f. let h = if1.false in two_common args.t.now pre.charted.table f gather.ensures.lists (omega arith) pre.distinct.1 common.ensures.exactly); unmarked_2 = common.ensures.unmarked_2 }
