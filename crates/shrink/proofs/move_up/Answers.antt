-- What has moved, with what is left to move, is the whole moved up (`turn`).
use mathlib.Core.Path.{◌≡◌, sym, ◌∙◌}
use Prim.Native.Nat.{◌+◌, ◌*◌}
use Rattle.shrink.proofs.Moving.{turn, ended, row_short}
use native.Mathlib.Omega.{arith}
use Rattle.shrink.proofs.move_up.Goals as goal

pub loop-row-preserved : goal.loop-row-preserved
loop-row-preserved c =
    let loop = c.loop-row in
    let a = c.args.a in
    let b = c.args.b in
    let short = row_short a b loop.t (3 * loop.row) in
    let on : 3 * (loop.row + 1) ≡ 3 * loop.row + 3 = omega arith in
    rw (on, c.move_row-j.ensures.wrote, c.move_row-j.ensures.next)
    (omega arith, turn a b loop.t (3 * loop.row) loop.j loop.invariant.0 (omega arith) ∙ loop.invariant.1)

pub returns : goal.returns
returns c =
    let loop = c.loop-row in
    (omega arith, loop.auto.t, sym (ended c.args.a c.args.b loop.t (3 * loop.row) loop.j (omega arith)) ∙ loop.invariant.1)
