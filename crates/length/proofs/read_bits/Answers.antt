-- `read_bits`: each way out is a law of Pattern at the pattern's field b / 2 ^ 52 and digits b % 2 ^ 52.
use mathlib.Core.Path.{sym, ◌∙◌}
use Prim.Native.Nat.{◌/◌, ◌%◌, ◌^◌}
use native.Mathlib.Omega.{arith}
use Rattle.length.proofs.Quotient.{capped_usable, capped_above}
use Rattle.length.proofs.Pattern.{positive, fits, at_zero, at_top, some_cut, all_cut}
use Rattle.length.proofs.read_bits.Goals as goal

pub returns-then-field-eq0 : goal.returns-then-field-eq0
returns-then-field-eq0 c =
    let b = c.args.b in
    sym (positive b _ _ c.requires.b_bound ∙ at_zero (b / 2 ^ 52) (b % 2 ^ 52) (omega arith) c.requires.small c.if-field-eq0.true)

pub returns-then-top-field : goal.returns-then-top-field
returns-then-top-field c =
    let b = c.args.b in
    sym (positive b _ _ c.requires.b_bound ∙ at_top (b / 2 ^ 52) (b % 2 ^ 52) (omega arith) c.requires.small c.if-top-field.true)

pub returns-then-cut-ge64 : goal.returns-then-cut-ge64
returns-then-cut-ge64 c =
    let b = c.args.b in
    sym (positive b _ _ c.requires.b_bound ∙ all_cut (b / 2 ^ 52) (b % 2 ^ 52) (omega arith) c.requires.small c.if-field-eq0.false c.if-top-field.false c.if-cut-ge64.true)

pub overflow_mul-c : goal.overflow_mul-c
overflow_mul-c c =
    let b = c.args.b in
    record { fits = fits (b / 2 ^ 52) (b % 2 ^ 52) (omega arith) c.requires.small }

pub returns-then-c-le-MOST_LIMIT : goal.returns-then-c-le-MOST_LIMIT
returns-then-c-le-MOST_LIMIT c =
    let b = c.args.b in
    sym (positive b _ _ c.requires.b_bound ∙ some_cut (b / 2 ^ 52) (b % 2 ^ 52) (omega arith) c.requires.small c.if-field-eq0.false c.if-top-field.false ∙ capped_usable c.if-c-le-MOST_LIMIT.true)

pub returns-else-c-le-MOST_LIMIT : goal.returns-else-c-le-MOST_LIMIT
returns-else-c-le-MOST_LIMIT c =
    let b = c.args.b in
    sym (positive b _ _ c.requires.b_bound ∙ some_cut (b / 2 ^ 52) (b % 2 ^ 52) (omega arith) c.requires.small c.if-field-eq0.false c.if-top-field.false ∙ capped_above c.if-c-le-MOST_LIMIT.false)
