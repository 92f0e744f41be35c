-- By the answer (`said_crossed`).
use Rattle.std.proofs.Common.{refl}
use Rattle.shift.specs.Answer.{told}
use Rattle.across.specs.Fields.{of_stand_in}
use Rattle.across.proofs.Saying.{said_crossed}
use Rattle.across.proofs.stand_in_of.Goals as goal

pub returns : goal.returns
returns c =
    let crossed = c.crossed-status.ensures in
    said_crossed told (λ s v. of_stand_in (record { status = s; corner = v.stand_in.0; count = v.count; squared = v.squared })) c.args.a crossed.done crossed.refused
    (λ v. record { status = refl; values = refl }) (λ e n h. record { status = h; values = refl })
