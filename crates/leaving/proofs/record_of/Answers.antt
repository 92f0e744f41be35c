-- The two rows that leave, found one after the other, are the record (`recorded`).
use mathlib.Core.Path.{refl}
use Rattle.leaving.proofs.Recording.{some_first, some_second, recorded}
use Rattle.leaving.proofs.record_of.Goals as goal

pub next_leaving-earlier-requires-clause-some_leaves : goal.next_leaving-earlier-requires-clause-some_leaves
next_leaving-earlier-requires-clause-some_leaves c = some_first c.args.t.now c.args.kept.0 c.args.removed.0 c.requires

pub next_leaving-later-requires-clause-some_leaves : goal.next_leaving-later-requires-clause-some_leaves
next_leaving-later-requires-clause-some_leaves c = some_second c.args.t.now c.args.kept.0 c.args.removed.0 c.requires _ c.next_leaving-earlier.ensures

pub returns : goal.returns
returns c = recorded c.args.t.now c.args.kept.0 c.args.removed.0 c.requires _ c.next_leaving-earlier.ensures _ c.next_leaving-later.ensures _ _ refl refl
