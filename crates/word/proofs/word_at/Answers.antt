-- What the library reads of those eight bytes (`read_eight`).
use Rattle.std.proofs.Common.{◌≡◌, ◌+◌, ◌-◌, ap, ◌∙◌, arith, take, drop}
use Rattle.word.specs.Bytes.{of_bytes}
use Rattle.word.proofs.Bytes.{read_eight}
use Rattle.word.proofs.word_at.Goals as goal

pub returns : goal.returns
returns c = let args = c.args in
    let n : args.i + 8 - args.i ≡ 8 = omega arith in
    c.from_le_bytes.ensures ∙ read_eight c.copy_from_slice.new.self c.copy_from_slice.ensures.len
    ∙ ap of_bytes (c.copy_from_slice.ensures.after ∙ ap (λ k. take k (drop args.i args.b.now)) n)
