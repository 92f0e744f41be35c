-- `tell_refusal` meets its contract: measured, then written.
use mathlib.Core.Path.{refl}
use Prim.Native.Nat.{◌≤◌}
use Rattle.tell.specs.Put.{short}
use Rattle.tell.specs.Inner.{most_told}
use Rattle.tell.proofs.Telling.{no_measured, no_written}
use native.Mathlib.Omega.{arith}
use Rattle.tell.proofs.tell_refusal.Goals as goal

pub returns-then-out-fields_length : goal.returns-then-out-fields_length
returns-then-out-fields_length c =
    let number_of_lem = c.from in
    let args = c.args in
    let f = number_of_lem.type_inv in
    let small : number_of_lem.result ≤ most_told = omega arith in
    let m = no_measured args.r _ number_of_lem.ensures small in
    short (let g = c.fields_length.ensures.0 in let t = c.if-out-fields_length.true in omega arith) refl refl

pub returns : goal.returns
returns c =
    let number_of_lem = c.from in
    let args = c.args in
    let fields-length = c.fields_length in
    let if1 = c.if-out-fields_length in
    let write-line = c.write_line in
    let f = number_of_lem.type_inv in
    let small : number_of_lem.result ≤ most_told = omega arith in
    let m = no_measured args.r _ number_of_lem.ensures small in
    no_written args.r _ number_of_lem.ensures small args.out.now (let g = fields-length.ensures.0 in let t = if1.false in omega arith) write-line.ensures
