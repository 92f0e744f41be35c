-- A number of 32 bits with its sign after its tab.
use Rattle.lines.specs.Inner.{ReadField}
use Rattle.lines.proofs.Turns.{plain_fits, plain_kept}
use Rattle.lines.proofs.I32Field.read.Goals as goal

pub overflow_cast-result : goal.overflow_cast-result
unfolding ReadField
overflow_cast-result c = plain_fits c.in_ok-z.z c.requires.1 c.in_ok-z.ensures

pub returns : goal.returns
unfolding ReadField
returns c = rw (plain_kept c.in_ok-z.z c.requires.1 c.in_ok-z.ensures) c.in_ok-z.ensures
