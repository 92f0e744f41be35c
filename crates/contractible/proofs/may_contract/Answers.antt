-- The chains are those of a stage, so the condition may be asked.
use Rattle.surface.specs.Limits.{most_corners}
use Rattle.slots.proofs.Marks.{no_mark}
use Rattle.slots.proofs.Slots.{under_more}
use Rattle.slots.proofs.Staged.{table_under}
use Rattle.contractible.proofs.may_contract.Goals as goal

pub chains-requires-clause-under : goal.chains-requires-clause-under
chains-requires-clause-under c = under_more (table_under c.requires.stage_table) c.requires.stage_table.stage.many

pub chains-requires-clause-blank : goal.chains-requires-clause-blank
chains-requires-clause-blank c = record { blank = λ k. no_mark most_corners k }
