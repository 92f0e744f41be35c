-- What the library's conversions give (`read_narrow`).
use Rattle.std.proofs.Common.{ap, ◌∙◌, w64, to_z, of_z}
use Rattle.std.proofs.lemmas.Int.{of_z-to_z}
use Rattle.word.proofs.Twos.{read_narrow}
use Rattle.word.proofs.signed_of.Goals as goal

pub returns : goal.returns
returns c = let fits = c.ranges.w.fits in
    let same = ap (λ z. to_z w64 (of_z w64 z)) c.cast_signed.ensures ∙ ap (to_z w64) (of_z-to_z w64 c.args.w fits) in
    rw c.ok.ensures.value (read_narrow c.try_from.result fits same c.try_from.ensures)
