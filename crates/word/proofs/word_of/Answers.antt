-- The library's word is two's complement (`twos_bits`).
use Rattle.std.proofs.Common.{sym, ap, ◌∙◌, w64, of_z}
use mir.ValLaws.{to_z-of_z}
use Rattle.word.proofs.Twos.{twos_bits}
use Rattle.word.proofs.word_of.Goals as goal

pub returns : goal.returns
returns c = let x = c.args.x in
    c.cast_unsigned.ensures ∙ ap (of_z w64) (to_z-of_z w64 x c.ranges.x) ∙ sym (twos_bits x)
