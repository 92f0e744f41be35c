-- By the answer (`said_crossed`).
use Rattle.std.proofs.Common.{refl, rules, w64}
use mir.ValLaws.{to_z-of_z}
use Rattle.job.specs.Answer.{told}
use Rattle.across.specs.Fields.{of_measure}
use Rattle.across.proofs.Saying.{said_crossed}
use Rattle.across.proofs.measure_of_job.Goals as goal

pub returns : goal.returns
returns c =
    let crossed = c.crossed-status.ensures in
    let same = to_z-of_z w64 c.crossed-status.result.1 (search rules) in
    rw same (said_crossed told (λ s v. of_measure (record { status = s; figure = v })) c.args.a crossed.done crossed.refused
    (λ v. record { status = refl; values = refl }) (λ e n h. record { status = h; values = refl }))
