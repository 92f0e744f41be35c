-- Each order by what it asks; the limit reader gives a fair bound.
use mathlib.Core.Path.{sym, ◌∙◌, ap}
use Rattle.thin.specs.Order.{asked_by}
use Rattle.thin.proofs.Engaged.{fair_limit}
use Rattle.thin.proofs.thin_by.Goals as goal

pub thin_as-requires-in-Limit : goal.thin_as-requires-in-Limit
thin_as-requires-in-Limit c = rw (c.asked_of.ensures ∙ ap asked_by c.read_limit.ensures) (fair_limit _)

pub returns-in-NoLimit : goal.returns-in-NoLimit
returns-in-NoLimit c = rw c.in-NoLimit.is c.thin_as.ensures

pub returns-in-Limit : goal.returns-in-Limit
returns-in-Limit c =
    let order = c.in-Limit in
    let read-limit = c.read_limit in
    let asked_of = c.asked_of in
    let thin-as2 = c.thin_as-in-Limit in
    rw (order.is, sym (asked_of.ensures ∙ ap asked_by read-limit.ensures)) thin-as2.ensures
