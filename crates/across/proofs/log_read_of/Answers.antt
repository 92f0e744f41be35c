-- By the answer (`said_crossed`).
use Rattle.std.proofs.Common.{refl}
use Rattle.logsheet.specs.Answer.{told}
use Rattle.across.specs.Fields.{of_log_read}
use Rattle.across.proofs.Saying.{said_crossed}
use Rattle.across.proofs.log_read_of.Goals as goal

pub returns : goal.returns
returns c =
    let crossed = c.crossed-status.ensures in
    said_crossed told (λ s v. of_log_read (record { status = s; corners = v.corners; rows = v.rows; records = v.records })) c.args.a crossed.done crossed.refused
    (λ v. record { status = refl; values = refl }) (λ e n h. record { status = h; values = refl })
