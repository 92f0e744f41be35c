-- The loop keeps `Summing` of Turn; the sum with one row more, as the machine has it, is named once.
use mathlib.Core.Path.{◌≡◌, refl}
use Prim.Native.Nat.{◌+◌, ◌*◌, ◌/◌}
use native.Mathlib.Omega.{arith}
use lib.ListN.{length}
use mir.Syntax.{w64}
use mir.Val.{to_z}
use Rattle.ints.proofs.Machine.{Known, known, told, fits, kept, plus}
use Rattle.figure.specs.Inner.{row_bound, sum_bound}
use Rattle.figure.proofs.Turn.{in_chunks, sum_corners, sum_more, sum_end}
use Rattle.figure.proofs.sixfold_sum.Goals as goal

pub determinant_of-s-requires : goal.determinant_of-s-requires
determinant_of-s-requires c =
    let t = c.args.t.now in
    let n = c.as_chunks.ensures.front_len in
    let k = c.loop-a.a-index in
    let r = in_chunks t c.as_chunks.result.0.now k (length t / 3) c.as_chunks.ensures.front (omega (arith, c.loop-a-test.true)) in
    let h = sum_corners c.loop-a.invariant (omega (arith, c.loop-a-test.true)) in
    rw (r.first, r.second, r.third) (h.0, h.1, h.2, c.loop-a.invariant.left.in_range)

pub overflow_add-s : goal.overflow_add-s
overflow_add-s c =
    let so_far : Known sum_bound = known {z = to_z w64 c.loop-a.s-bits} {m = to_z w64 c.loop-a.s-bits} (record { same = refl; size = omega (arith, c.loop-a.invariant.size) }) in
    let one_more : Known (sum_bound + row_bound) = known (plus so_far.is (told w64 c.determinant_of-s.type_inv c.determinant_of-s.ensures)) in
    fits w64 one_more.is (omega arith)

pub loop-a-preserved : goal.loop-a-preserved
loop-a-preserved c =
    let t = c.args.t.now in
    let n = c.as_chunks.ensures.front_len in
    let k = c.loop-a.a-index in
    let r = in_chunks t c.as_chunks.result.0.now k (length t / 3) c.as_chunks.ensures.front (omega (arith, c.loop-a-test.true)) in
    let so_far : Known sum_bound = known {z = to_z w64 c.loop-a.s-bits} {m = to_z w64 c.loop-a.s-bits} (record { same = refl; size = omega (arith, c.loop-a.invariant.size) }) in
    let one_more : Known (sum_bound + row_bound) = known (plus so_far.is (told w64 c.determinant_of-s.type_inv c.determinant_of-s.ensures)) in
    let on : 3 * (k + 1) ≡ 3 * k + 3 = omega arith in
    rw (on, (kept w64 one_more.is (omega arith)).same, r.first, r.second, r.third) (sum_more c.loop-a.invariant (omega (arith, c.loop-a-test.true)))

pub returns : goal.returns
returns c =
    let n = c.as_chunks.ensures.front_len in
    (sum_end c.loop-a.invariant (omega (arith, c.loop-a-test.false)), omega (arith, c.loop-a.invariant.size))
