-- By the answer (`said_crossed`).
use Rattle.std.proofs.Common.{refl}
use Rattle.logrecords.specs.Answer.{told_opened}
use Rattle.across.specs.Fields.{of_log_opened}
use Rattle.across.proofs.Saying.{said_crossed}
use Rattle.across.proofs.log_opened_of.Goals as goal

pub returns : goal.returns
returns c =
    let crossed = c.crossed-status.ensures in
    said_crossed told_opened (λ s v. of_log_opened (record { status = s; corners = v.corners; rows = v.rows; place = v.after.at })) c.args.a crossed.done crossed.refused
    (λ v. record { status = refl; values = refl }) (λ e n h. record { status = h; values = refl })
