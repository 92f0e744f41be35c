-- Each order by what it asks, as in thinning; the limit reader gives a fair bound.
use mathlib.Core.Path.{sym, ◌∙◌, ap}
use Rattle.thin.specs.Order.{asked_by}
use Rattle.thin.proofs.Engaged.{fair_limit}
use Rattle.recover.proofs.recover.Goals as goal

pub recover_as-requires-in-Limit : goal.recover_as-requires-in-Limit
recover_as-requires-in-Limit c = rw (c.asked_of.ensures ∙ ap asked_by c.read_limit.ensures) (fair_limit _)

pub returns-in-NoLimit : goal.returns-in-NoLimit
returns-in-NoLimit c = rw c.in-NoLimit.is c.recover_as.ensures

pub returns-in-Limit : goal.returns-in-Limit
returns-in-Limit c = rw (c.in-Limit.is, sym (c.asked_of.ensures ∙ ap asked_by c.read_limit.ensures)) c.recover_as-in-Limit.ensures
