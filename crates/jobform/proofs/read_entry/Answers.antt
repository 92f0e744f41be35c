-- `read_entry` meets its contract.
use mathlib.Core.Path.{sym}
use mir.Syntax.{w64}
use mir.ValLaws.{to_z-of_z}
use Rattle.text.specs.InnerReading.{Expected}
use Rattle.lines.proofs.Turns.{field_small}
use Rattle.lines.specs.Inner.{ReadField}
use Rattle.jobform.specs.Inner.{ReadLetter, ReadName, ReadEntry}
use Rattle.jobform.proofs.Parts.{no_word, no_letter, no_name, no_sum, no_end, whole_line}
use native.Mathlib.Omega.{arith}
use Rattle.jobform.proofs.read_entry.Goals as goal

pub returns-in_err-start : goal.returns-in_err-start
unfolding Expected ReadEntry
returns-in_err-start c = rw c.from_residual.ensures (no_word c.in_err-start.ensures)

pub returns-in_err-letter : goal.returns-in_err-letter
unfolding Expected ReadLetter ReadEntry
returns-in_err-letter c = rw c.from_residual-in_err-letter.ensures (no_letter c.in_ok-start.ensures c.in_err-letter.ensures)

pub returns-in_err-name : goal.returns-in_err-name
unfolding Expected ReadLetter ReadName ReadEntry
returns-in_err-name c = rw c.from_residual-in_err-name.ensures (no_name c.in_ok-start.ensures c.in_ok-letter.ensures c.in_err-name.ensures)

pub returns-in_err-sum : goal.returns-in_err-sum
unfolding Expected ReadLetter ReadName ReadField ReadEntry
returns-in_err-sum c = rw c.from_residual-in_err-sum.ensures (no_sum c.in_ok-start.ensures c.in_ok-letter.ensures c.in_ok-name.ensures c.in_err-sum.ensures)

pub returns-in_err-next : goal.returns-in_err-next
unfolding Expected ReadLetter ReadName ReadField ReadEntry
returns-in_err-next c = rw c.from_residual-in_err-next.ensures (no_end c.in_ok-start.ensures c.in_ok-letter.ensures c.in_ok-name.ensures c.in_ok-sum.ensures c.in_err-next.ensures)

pub returns : goal.returns
unfolding Expected ReadLetter ReadName ReadField ReadEntry
returns c =
    let sum = c.in_ok-sum.ensures in
    whole_line c.in_ok-start.ensures c.in_ok-letter.ensures c.in_ok-name.ensures sum (sym (to_z-of_z w64 c.in_ok-sum.sum (field_small (omega arith) sum))) c.in_ok-next.ensures
