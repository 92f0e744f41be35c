-- `write_number` meets its contract, by what is left of the number.
use Rattle.std.proofs.Common.{length, ap, arith}
use Rattle.text.proofs.Digits.{decimal_one}
use Rattle.text.proofs.Spell.{length_split, write_one, write_more}
use Rattle.text.proofs.+write_number.Goals as goal

pub bounds-out-at : goal.bounds-out-at
bounds-out-at t c = let n = ap length (decimal_one c.args.v c.if-v-lt10.true) in let p = c.requires in omega arith

pub returns-then-v-lt10 : goal.returns-then-v-lt10
returns-then-v-lt10 t c = write_one c.args.out.now c.args.at c.args.v c.if-v-lt10.true

pub write_number-last-requires : goal.write_number-last-requires
write_number-last-requires t c = (omega (arith, c.decreases, c.if-v-lt10.false), omega (arith, c.requires, length_split c.args.v c.if-v-lt10.false))

pub bounds-out-last : goal.bounds-out-last
bounds-out-last t c =
    let n = length_split c.args.v c.if-v-lt10.false in
    let p = c.requires in
    let q = c.write_number-last.ensures.place in
    omega (arith, c.write_number-last.auto.out)

pub overflow_add-result-2 : goal.overflow_add-result-2
overflow_add-result-2 t c =
    let n = length_split c.args.v c.if-v-lt10.false in
    let p = c.requires in
    let q = c.write_number-last.ensures.place in
    omega (arith, c.write_number-last.auto.out)

pub returns : goal.returns
returns t c = write_more _ _ _ c.args.v _ c.if-v-lt10.false c.write_number-last.ensures
