-- `writable` meets its contract.
use Rattle.refusal.proofs.Tells.{true_false, tells_false}
use Rattle.logsheet.proofs.Shortness.{short_each, all_short}
use Rattle.logsheet.proofs.writable.Goals as goal

pub returns-then-log-ne0 : goal.returns-then-log-ne0
returns-then-log-ne0 c = tells_false (λ w. let a = w.whole in let b = c.if-log-ne0.true in absurd (b a))

pub returns-then-not-counts_in : goal.returns-then-not-counts_in
returns-then-not-counts_in c = tells_false (λ w. c.counts_in.ensures.when_false c.if-not-counts_in.true w.counts)

pub returns : goal.returns
returns c =
    let log = c.args.log.now in
    let if1 = c.if-log-ne0 in
    let counts_in_lem = c.counts_in in
    let each = c.short.ensures in
    record {
      when_true = λ e. record { whole = if1.false; counts = counts_in_lem.ensures.when_true c.if-not-counts_in.false; short = all_short log (each.0 e) };
      when_false = λ e w. true_false (each.1 (short_each log w.short)) e;
    }
