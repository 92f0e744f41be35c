-- `tell_run` meets its contract: measured, then the first line, the rows and the records.
use mathlib.Core.Path.{refl}
use Rattle.tell.specs.Put.{short}
use Rattle.tell.proofs.Telling.{too_long, room_enough, rows_fit, records_fit, run_written}
use Rattle.tell.proofs.tell_run.Goals as goal

pub returns-then-out-words : goal.returns-then-out-words
returns-then-out-words c =
    let pre = c.requires in
    let fields-length = c.fields_length-first_fields in
    let numbers_length_lem = c.fields_length in
    let args = c.args in
    let fits = c.ranges in
    short (too_long args.last.now args.log.now args.before args.after pre fits.before fits.after fields-length.ensures.0 numbers_length_lem.ensures.0 c.fields_length-2.ensures.0 c.if-out-words.true) refl refl

pub number_lines-second-requires-clause-fits : goal.number_lines-second-requires-clause-fits
number_lines-second-requires-clause-fits c =
    let pre = c.requires in
    let fields-length = c.fields_length-first_fields in
    let numbers_length_lem = c.fields_length in
    let numbers-length2 = c.fields_length-2 in
    let if1 = c.if-out-words in
    let write-line = c.write_line-first in
    let args = c.args in
    let fits = c.ranges in
    let room = room_enough args.last.now args.log.now args.before args.after pre fits.before fits.after fields-length.ensures.0 numbers_length_lem.ensures.0 numbers-length2.ensures.0 if1.false in
    rows_fit args.last.now args.log.now args.before args.after pre fits.before fits.after args.out.now room write-line.ensures

pub number_lines-third-requires-clause-fits : goal.number_lines-third-requires-clause-fits
number_lines-third-requires-clause-fits c =
    let pre = c.requires in
    let fields-length = c.fields_length-first_fields in
    let numbers_length_lem = c.fields_length in
    let numbers-length2 = c.fields_length-2 in
    let if1 = c.if-out-words in
    let write-line = c.write_line-first in
    let number-lines = c.number_lines-second in
    let args = c.args in
    let fits = c.ranges in
    let room = room_enough args.last.now args.log.now args.before args.after pre fits.before fits.after fields-length.ensures.0 numbers_length_lem.ensures.0 numbers-length2.ensures.0 if1.false in
    records_fit args.last.now args.log.now args.before args.after pre fits.before fits.after args.out.now room write-line.ensures number-lines.ensures

pub returns : goal.returns
returns c =
    let pre = c.requires in
    let fields-length = c.fields_length-first_fields in
    let numbers_length_lem = c.fields_length in
    let numbers-length2 = c.fields_length-2 in
    let if1 = c.if-out-words in
    let write-line = c.write_line-first in
    let number-lines = c.number_lines-second in
    let number-lines2 = c.number_lines-third in
    let args = c.args in
    let fits = c.ranges in
    let room = room_enough args.last.now args.log.now args.before args.after pre fits.before fits.after fields-length.ensures.0 numbers_length_lem.ensures.0 numbers-length2.ensures.0 if1.false in
    run_written args.last.now args.log.now args.before args.after pre fits.before fits.after args.out.now room write-line.ensures number-lines.ensures number-lines2.ensures
