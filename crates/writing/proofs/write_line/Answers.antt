-- `write_line` meets its contract: the word, the fields, one newline.
use Rattle.std.proofs.Common.{map}
use Rattle.writing.proofs.Writing.{word_fits, numbers_fit, newline_fits, line_written}
use Rattle.writing.proofs.write_line.Goals as goal

pub write_bytes-word-requires : goal.write_bytes-word-requires
write_bytes-word-requires g c = word_fits c.args.w.now (map g.F.Field.up c.args.zs.now) c.args.out.now c.args.at c.requires

pub write_fields-numbers-requires : goal.write_fields-numbers-requires
write_fields-numbers-requires g c = numbers_fit c.args.w.now (map g.F.Field.up c.args.zs.now) c.args.out.now c.args.at c.requires c.write_bytes-word.ensures

pub write_bytes-requires : goal.write_bytes-requires
write_bytes-requires g c = newline_fits c.args.w.now (map g.F.Field.up c.args.zs.now) c.args.out.now c.args.at c.requires c.write_bytes-word.ensures c.write_fields-numbers.ensures

pub returns : goal.returns
returns g c = line_written c.args.w.now (map g.F.Field.up c.args.zs.now) c.args.out.now c.args.at c.requires c.write_bytes-word.ensures c.write_fields-numbers.ensures c.write_bytes.ensures
