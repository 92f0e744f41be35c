-- `write_log_sheet` meets its contract.
use Rattle.logsheet.proofs.Writing.{not_writable, too_long, room_enough, first_fits, records_fit, log_written}
use native.Mathlib.Omega.{arith}
use Rattle.logsheet.proofs.write_log_sheet.Goals as goal

pub returns-then-not-writable : goal.returns-then-not-writable
returns-then-not-writable c = not_writable (c.writable.ensures.when_false c.if-not-writable.true)

pub returns-then-text-words : goal.returns-then-text-words
returns-then-text-words c = too_long (c.writable.ensures.when_true c.if-not-writable.false) c.fields_length.ensures.0 c.fields_length-2.ensures.0 c.args.text.now c.if-text-words.true

pub write_line-first-requires : goal.write_line-first-requires
write_line-first-requires c =
    let fit = c.writable.ensures.when_true c.if-not-writable.false in
    first_fits fit c.args.text.now (room_enough fit c.fields_length.ensures.0 c.fields_length-2.ensures.0 c.if-text-words.false)

pub number_lines-requires : goal.number_lines-requires
number_lines-requires c =
    let fit = c.writable.ensures.when_true c.if-not-writable.false in
    let room = room_enough fit c.fields_length.ensures.0 c.fields_length-2.ensures.0 c.if-text-words.false in
    record { numbers_there = omega arith; fits = records_fit fit c.args.text.now room c.write_line-first.ensures }

pub returns : goal.returns
returns c =
    let fit = c.writable.ensures.when_true c.if-not-writable.false in
    let room = room_enough fit c.fields_length.ensures.0 c.fields_length-2.ensures.0 c.if-text-words.false in
    log_written fit c.args.text.now room c.write_line-first.ensures c.number_lines.ensures
