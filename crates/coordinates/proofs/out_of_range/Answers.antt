-- `out_of_range` meets its contract.
use Rattle.std.proofs.Common.{◌<◌, ◌≤◌, nat_abs, pos, arith, rules, tests}
use Rattle.std.proofs.lemmas.Iterator.{cases_from_any, YieldsList-from_slice}
use Rattle.corners.specs.Limits.{most_coordinate}
use Rattle.refusal.proofs.Tells.{tells_match}
use Rattle.coordinates.proofs.Range.{out_at, all_in}
use Rattle.coordinates.proofs.out_of_range.Goals as goal

pub returns : goal.returns
returns c =
    let xs = c.args.xs.now in
    let cases = cases_from_any _ _ _ (λ x. most_coordinate < nat_abs x) (λ x. nat_abs x ≤ most_coordinate) c.any.ensures.ran (YieldsList-from_slice xs cc) (λ x q k. search (rules, tests)) (λ x q k. search (rules, tests)) in
    tells_match _ cases (λ h. out_at xs h.0 h.1 (h.2 (pos 0))) (λ h. all_in xs (λ i l. h i (pos 0) (omega arith) l))
