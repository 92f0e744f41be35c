-- `signed_length` meets its contract.
use Rattle.std.proofs.Common.{◌≡◌, ◌∙◌, ap, w64, nat_abs, length, arith}
use mir.ValLaws.{to_z-of_z}
use Rattle.text.specs.Decimal.{decimal}
use Rattle.text.proofs.Signs.{signed_neg}
use Rattle.text.proofs.Spell.{length_63}
use Rattle.text.proofs.signed_length.Goals as goal

pub returns-then-z-lt0 : goal.returns-then-z-lt0
returns-then-z-lt0 c =
    let size : c.unsigned_abs.result ≡ nat_abs c.args.z = c.unsigned_abs.ensures.value ∙ ap nat_abs (to_z-of_z w64 c.args.z c.ranges.z) in
    let n = rw size at c.number_length-n.ensures.0 in
    let b = rw size at (length_63 c.unsigned_abs.result c.unsigned_abs.ensures.bound) in
    let e = ap length (signed_neg c.args.z c.ranges.z c.if-z-lt0.true) in
    (omega arith, omega arith)
