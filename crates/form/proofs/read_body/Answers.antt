-- `read_body` meets its contract.
use Rattle.refusal.proofs.Tells.{tells_false}
use Rattle.lines.specs.Inner.{ReadInto}
use Rattle.form.proofs.Lower.{no_corners, no_rows, more_follows, body_read, some_left, none_left}
use Rattle.std.proofs.lemmas.Bool.{leb-true, leb-false}
use Rattle.form.proofs.read_body.Goals as goal

pub returns-in_default : goal.returns-in_default
unfolding ReadInto
returns-in_default c = tells_false (no_corners c.in_default.ensures)

pub returns-in_default-rows : goal.returns-in_default-rows
unfolding ReadInto
returns-in_default-rows c = tells_false (no_rows c.in-Some.ensures c.in_default-rows.ensures)

pub returns : goal.returns
unfolding ReadInto
returns c =
    let pre = c.requires in
    let corners = c.in-Some.ensures in
    let rows = c.in-Some-rows.ensures in
    record {
      when_true = λ e. body_read corners rows pre.0 pre.1 (none_left _ _ (leb-true _ _ e));
      when_false = λ e. more_follows corners rows (some_left _ _ (leb-false _ _ e));
    }
