-- The row leaves, or is written with the removed number replaced.
use mathlib.Core.Path.{refl, sym, ◌∙◌, ap}
use mathlib.Core.List.{[], ◌∷◌}
use lib.Seq.{sets}
use Rattle.shrink.proofs.Moving.{row_gone, row_stays}
use native.Mathlib.Omega.{arith}
use Rattle.shrink.proofs.move_row.Goals as goal

pub returns-then-row_leaves : goal.returns-then-row_leaves
returns-then-row_leaves c =
    let args = c.args in
    let row-leaves = c.row_leaves in
    let e = row_gone args.a args.b args.t.now args.i (sym c.if-row_leaves.true ∙ row-leaves.ensures) in
    record { next = rw e (omega arith); wrote = rw e refl }

pub returns : goal.returns
returns c =
    let args = c.args in
    let row-leaves = c.row_leaves in
    let if1 = c.if-row_leaves in
    let swapped = c.swapped in
    let swapped2 = c.swapped-2 in
    let swapped3 = c.swapped-3 in
    let write-row = c.write_row in
    let e = row_stays args.a args.b args.t.now args.i (sym if1.false ∙ row-leaves.ensures) in
    record {
      next = rw e (omega arith);
      wrote =
          write-row.ensures
          ∙ (λ k. sets args.t.now args.j (swapped.ensures k ∷ swapped2.ensures k ∷ swapped3.ensures k ∷ []))
          ∙ ap (sets args.t.now args.j) (sym e);
    }
