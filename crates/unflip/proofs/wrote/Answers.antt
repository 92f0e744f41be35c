-- `wrote` meets its contract.
use mathlib.Core.Path.{sym}
use Rattle.std.proofs.lemmas.Bool.{eqb-true, eqb-false}
use Rattle.refusal.proofs.Tells.{tells_false}
use Rattle.unflip.proofs.Undoing.{turned_one, paired, unpaired}
use Rattle.unflip.proofs.wrote.Goals as goal

pub returns-in_default : goal.returns-in_default
returns-in_default c = tells_false (λ w. unpaired c.in_default.ensures _ _ w.turned_1 w.turned_2)

pub returns-then-c-upper : goal.returns-then-c-upper
returns-then-c-upper c =
    let pair = paired c.in-Some.ensures in
    record {
      when_true = λ e. record { same_c = c.if-upper-lower.false; same_d = c.if-upper-lower-2.false; turned_1 = rw (sym c.if-c-upper.true) pair.0; turned_2 = rw (sym (eqb-true c.in-Some.d.0 c.args.upper.c.0 e)) pair.1 };
      when_false = λ e w. eqb-false c.in-Some.d.0 c.args.upper.c.0 e (turned_one pair.1 w.turned_2);
    }

pub returns-else-c-upper : goal.returns-else-c-upper
returns-else-c-upper c =
    let pair = paired c.in-Some.ensures in
    record { when_true = λ e. absurd (c.if-c-upper.false (eqb-true c.in-Some.c.0 c.args.upper.a.0 e)); when_false = λ e w. c.if-c-upper.false (turned_one pair.0 w.turned_1) }
