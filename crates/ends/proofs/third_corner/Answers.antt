-- `third_corner` meets its contract.
use Rattle.surface.specs.Rows.{turn_0, turn_1, turn_2}
use Rattle.ends.specs.Rows.{ThirdIs}
use Rattle.ends.proofs.Pairs.{no_third}
use Rattle.ends.proofs.third_corner.Goals as goal

pub returns-then-goes : goal.returns-then-goes
unfolding ThirdIs
returns-then-goes c =
    let goes = c.goes in
    let if1 = c.if-goes in
    let h = goes.ensures.when_true if1.true in let p = h.0 in let q = h.1 in turn_0 (cc)

pub returns-then-goes-2 : goal.returns-then-goes-2
unfolding ThirdIs
returns-then-goes-2 c =
    let goes2 = c.goes-2 in
    let if2 = c.if-goes-2 in
    let h = goes2.ensures.when_true if2.true in let p = h.0 in let q = h.1 in turn_2 (cc)

pub returns-then-goes-3 : goal.returns-then-goes-3
unfolding ThirdIs
returns-then-goes-3 c =
    let goes3 = c.goes-3 in
    let if3 = c.if-goes-3 in
    let h = goes3.ensures.when_true if3.true in let p = h.0 in let q = h.1 in turn_1 (cc)

pub returns : goal.returns
unfolding ThirdIs
returns c =
    let goes = c.goes in
    let if1 = c.if-goes in
    let goes2 = c.goes-2 in
    let if2 = c.if-goes-2 in
    let goes3 = c.goes-3 in
    let if3 = c.if-goes-3 in
    no_third (goes.ensures.when_false if1.false) (goes2.ensures.when_false if2.false) (goes3.ensures.when_false if3.false)
