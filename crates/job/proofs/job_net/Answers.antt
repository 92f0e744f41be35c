-- `job_net` meets its contract.
use mathlib.Core.Path.{subst}
use mathlib.Core.Logic.{inl, inr}
use Rattle.jobform.specs.Inner.{ReadJob}
use Rattle.job.specs.Inner.{Settled}
use Rattle.job.proofs.Answering.{bad_form, bad_count, kept, settled}
use native.Mathlib.Omega.{arith}
use Rattle.job.proofs.job_net.Goals as goal

pub returns-in_default : goal.returns-in_default
unfolding ReadJob
returns-in_default c = bad_form c.in_default.ensures

pub returns-then-count-eq0 : goal.returns-then-count-eq0
unfolding ReadJob
returns-then-count-eq0 c = bad_count c.in-Some.ensures (inl c.if-count-eq0.true)

pub returns-then-count-gt-MOST_ENTRIES : goal.returns-then-count-gt-MOST_ENTRIES
unfolding ReadJob
returns-then-count-gt-MOST_ENTRIES c = bad_count c.in-Some.ensures (inr c.if-count-gt-MOST_ENTRIES.true)

pub returns : goal.returns
unfolding ReadJob
returns c =
    let read = c.in-Some.ensures in
    settled read c.if-count-eq0.false c.if-count-gt-MOST_ENTRIES.false (subst (λ es. Settled es c.settle.result) (kept read c.if-count-eq0.false c.if-count-gt-MOST_ENTRIES.false (omega (arith, c.read_job_form.auto.entries))) c.settle.ensures)
