-- The bytes of the word stand in the place of as many (`put_eight`).
use Rattle.std.proofs.Common.{◌+◌, ◌-◌, ap, ◌∙◌, arith}
use borrow.Rule.Slice.PartMut.{put_mid}
use Rattle.word.proofs.Bytes.{put_eight}
use Rattle.word.proofs.put_word.Goals as goal

pub returns : goal.returns
returns c = let args = c.args in
    ap (put_mid args.i (args.i + 8 - args.i) args.b.now) (c.copy_from_slice.ensures.after ∙ c.to_le_bytes.ensures)
    ∙ put_eight args.b.now args.i args.w (omega arith) c.requires
