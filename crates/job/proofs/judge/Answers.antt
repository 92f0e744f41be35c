-- `judge` meets its contract.
use Rattle.refusal.proofs.Laws.{◌nor◌, none_yet}
use Rattle.nest.proofs.Entries.{earlier}
use Rattle.job.specs.Inner.{asked}
use Rattle.job.proofs.Judging.{stopped, all_well}
use Rattle.job.proofs.judge.Goals as goal

pub returns-then-not-every : goal.returns-then-not-every
unfolding asked
returns-then-not-every c = stopped (none_yet) (c.every.ensures.when_false c.if-not-every.true)

pub returns-then-not-every-2 : goal.returns-then-not-every-2
unfolding asked
returns-then-not-every-2 c = stopped ((λ n. n (c.every.ensures.when_true c.if-not-every.false)) nor none_yet) (c.every-2.ensures.when_false c.if-not-every-2.true)

pub every-requires-3 : goal.every-requires-3
every-requires-3 c = earlier _ (c.every-2.ensures.when_true c.if-not-every-2.false)

pub returns-then-not-every-3 : goal.returns-then-not-every-3
unfolding asked
returns-then-not-every-3 c = stopped ((λ n. n (c.every.ensures.when_true c.if-not-every.false)) nor (λ n. n (c.every-2.ensures.when_true c.if-not-every-2.false)) nor none_yet) (c.every-3.ensures.when_false c.if-not-every-3.true)

pub every-requires-4 : goal.every-requires-4
every-requires-4 c = earlier _ (c.every-2.ensures.when_true c.if-not-every-2.false)

pub returns-then-not-every-4 : goal.returns-then-not-every-4
unfolding asked
returns-then-not-every-4 c = stopped ((λ n. n (c.every.ensures.when_true c.if-not-every.false)) nor (λ n. n (c.every-2.ensures.when_true c.if-not-every-2.false)) nor (λ n. n (c.every-3.ensures.when_true c.if-not-every-3.false)) nor none_yet) (c.every-4.ensures.when_false c.if-not-every-4.true)

pub returns-then-not-every-5 : goal.returns-then-not-every-5
unfolding asked
returns-then-not-every-5 c = stopped ((λ n. n (c.every.ensures.when_true c.if-not-every.false)) nor (λ n. n (c.every-2.ensures.when_true c.if-not-every-2.false)) nor (λ n. n (c.every-3.ensures.when_true c.if-not-every-3.false)) nor (λ n. n (c.every-4.ensures.when_true c.if-not-every-4.false)) nor none_yet) (c.every-5.ensures.when_false c.if-not-every-5.true)

pub returns : goal.returns
unfolding asked
returns c = all_well (record { marked = c.every.ensures.when_true c.if-not-every.false; named = c.every-2.ensures.when_true c.if-not-every-2.false; alternates = c.every-3.ensures.when_true c.if-not-every-3.false; shallow = c.every-4.ensures.when_true c.if-not-every-4.false; sums = c.every-5.ensures.when_true c.if-not-every-5.false })
