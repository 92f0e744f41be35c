-- `row_at` meets its contract.
use mathlib.Core.Path.{refl}
use Rattle.flips.proofs.Places.{rows_stands}
use Rattle.flip.proofs.Rowwise.{inside, few}
use native.Mathlib.Omega.{arith}
use Rattle.flip.proofs.row_at.Goals as goal

pub overflow_mul-e : goal.overflow_mul-e
overflow_mul-e c =
    let args = c.args in
    let pre = c.requires in
    let h = few args.t.now pre.whole args.p pre.p_in_bounds in omega (arith, h)

pub overflow_cast-result : goal.overflow_cast-result
overflow_cast-result c =
    let args = c.args in
    let pre = c.requires in
    let h = few args.t.now pre.whole args.p pre.p_in_bounds in omega (arith, h)

pub offset_bounds-t-e : goal.offset_bounds-t-e
offset_bounds-t-e c =
    let args = c.args in
    let pre = c.requires in
    let h = inside args.t.now pre.whole args.p pre.p_in_bounds in omega (arith, h, pre.whole.most)

pub bounds-t-e : goal.bounds-t-e
bounds-t-e c =
    let args = c.args in
    let pre = c.requires in
    let h = inside args.t.now pre.whole args.p pre.p_in_bounds in omega (arith, h)

pub overflow_add-result : goal.overflow_add-result
overflow_add-result c =
    let args = c.args in
    let pre = c.requires in
    let h = inside args.t.now pre.whole args.p pre.p_in_bounds in omega (arith, h, pre.whole.most)

pub offset_bounds-t-e-2 : goal.offset_bounds-t-e-2
offset_bounds-t-e-2 c =
    let args = c.args in
    let pre = c.requires in
    let h = inside args.t.now pre.whole args.p pre.p_in_bounds in omega (arith, h, pre.whole.most)

pub bounds-t-e-2 : goal.bounds-t-e-2
bounds-t-e-2 c =
    let args = c.args in
    let pre = c.requires in
    let h = inside args.t.now pre.whole args.p pre.p_in_bounds in omega (arith, h)

pub overflow_add-result-2 : goal.overflow_add-result-2
overflow_add-result-2 c =
    let args = c.args in
    let pre = c.requires in
    let h = inside args.t.now pre.whole args.p pre.p_in_bounds in omega (arith, h, pre.whole.most)

pub offset_bounds-t-e-3 : goal.offset_bounds-t-e-3
offset_bounds-t-e-3 c =
    let args = c.args in
    let pre = c.requires in
    let h = inside args.t.now pre.whole args.p pre.p_in_bounds in omega (arith, h, pre.whole.most)

pub bounds-t-e-3 : goal.bounds-t-e-3
bounds-t-e-3 c =
    let args = c.args in
    let pre = c.requires in
    let h = inside args.t.now pre.whole args.p pre.p_in_bounds in omega (arith, h)

pub returns : goal.returns
returns c =
    let args = c.args in
    let pre = c.requires in
    record { place = refl; stands = rows_stands args.t.now args.p pre.p_in_bounds }
