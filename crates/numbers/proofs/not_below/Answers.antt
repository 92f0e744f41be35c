-- `not_below` meets its contract.
use Rattle.std.proofs.Common.{◌<◌, ◌≤◌, arith, rules, tests}
use Rattle.std.proofs.lemmas.Iterator.{cases_from_any, YieldsList-from_slice}
use Rattle.refusal.proofs.Tells.{tells_match}
use Rattle.numbers.proofs.Tests.{not_below_at, below_all}
use Rattle.numbers.proofs.not_below.Goals as goal

pub returns : goal.returns
returns c =
    let t = c.args.t.now in
    let n = c.args.n in
    let cases = cases_from_any _ _ _ (λ v. n ≤ v) (λ v. v < n) c.any.ensures.ran (YieldsList-from_slice t cc) (λ x q k. search (rules, tests)) (λ x q k. search (rules, tests)) in
    tells_match _ cases (λ h. not_below_at t c.requires n h.0 h.1 (h.2 0)) (λ h. below_all t c.requires n (λ e l. h e 0 (omega arith) l))
