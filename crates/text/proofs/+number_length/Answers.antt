-- `number_length` meets its contract, by what is left of the number.
use Rattle.std.proofs.Common.{◌≡◌, ◌+◌, length, sym, ap, rules, arith}
use Rattle.text.specs.Decimal.{decimal}
use Rattle.text.proofs.Digits.{decimal_one}
use Rattle.text.proofs.Spell.{length_split, length_64}
use Rattle.text.proofs.+number_length.Goals as goal

pub returns-then-v-lt10 : goal.returns-then-v-lt10
returns-then-v-lt10 t c = (sym (ap length (decimal_one c.args.v c.if-v-lt10.true)), search rules)

pub returns : goal.returns
returns t c =
    let v = c.args.v in
    let n = length_split v c.if-v-lt10.false in
    let e = c.number_length.ensures.0 in
    let r : c.number_length.result + 1 ≡ length (decimal v) = omega arith in
    (r, omega (arith, length_64 v c.ranges.v.fits))
