-- By the answer (`said_crossed`).
use Rattle.std.proofs.Common.{refl}
use Rattle.sheet.specs.Answer.{told}
use Rattle.across.specs.Fields.{of_counts}
use Rattle.across.proofs.Saying.{said_crossed}
use Rattle.across.proofs.counts_of.Goals as goal

pub returns : goal.returns
returns c =
    let crossed = c.crossed-status.ensures in
    said_crossed told (λ s v. of_counts (record { status = s; corners = v.0; rows = v.1 })) c.args.a crossed.done crossed.refused
    (λ v. record { status = refl; values = refl }) (λ e n h. record { status = h; values = refl })
