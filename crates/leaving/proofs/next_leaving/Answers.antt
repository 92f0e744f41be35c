-- The rows passed stay, and some row further on leaves, so the walk ends inside the table.
use mathlib.Core.Path.{refl, sym, ◌∙◌}
use Rattle.shrink.proofs.Moving.{leaves_not, not_leaves}
use Rattle.leaving.proofs.Leave.{some_next, passed_more}
use native.Mathlib.Omega.{arith}
use Rattle.leaving.proofs.next_leaving.Goals as goal

pub loop-p-preserved : goal.loop-p-preserved
loop-p-preserved c =
    let i = c.loop-p.invariant in
    let k = not_leaves c.args.a c.args.b _ _ _ (sym c.row_leaves.ensures ∙ c.loop-p-test.true) in
    (omega (arith, i.0), some_next i.1 k, passed_more c.args.t.now i.2 k)

pub returns : goal.returns
returns c =
    let i = c.loop-p.invariant in
    let w = i.1 in
    record {
      from = i.0;
      inside = omega arith;
      stands = refl;
      leaves = leaves_not c.args.a c.args.b _ _ _ (sym c.row_leaves.ensures ∙ c.loop-p-test.false);
      passed = i.2;
    }
