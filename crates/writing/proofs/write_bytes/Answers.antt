-- `write_bytes` meets its contract.
use Rattle.std.proofs.Common.{append_assoc, ◌≡◌, ◌+◌, ◌-◌, length, refl, sym, ◌∙◌, arith}
use Rattle.std.proofs.lemmas.List.Edits.{sets-eq, paste_all}
use Rattle.std.proofs.lemmas.Slice.{put_mid-paste}
use Rattle.writing.proofs.write_bytes.Goals as goal

pub returns : goal.returns
returns c =
    let n : length c.args.w.now ≡ c.args.at + length c.args.w.now - c.args.at = omega arith in
    let pasted = put_mid-paste c.args.at _ c.args.out.now _ c.args.w.now (length c.args.w.now) c.copy_from_slice.ensures.after n refl in
    let is = rw append_assoc at (sets-eq c.args.w.now c.args.out.now c.args.at c.requires) in
    record { place = refl; text = pasted ∙ paste_all c.args.out.now c.args.at c.args.w.now _ refl ∙ sym is }
