-- `read_letter` meets its contract.
use mathlib.Core.Path.{sym}
use Rattle.std.proofs.lemmas.Bool.{ltb-true}
use Rattle.std.proofs.lemmas.List.{get_or_read}
use Rattle.text.specs.InnerReading.{Expected}
use Rattle.jobform.specs.Inner.{ReadLetter}
use Rattle.jobform.proofs.Reading.{untabbed_letter, letter_past, other_letter, letter_here}
use native.Mathlib.Omega.{arith}
use Rattle.jobform.proofs.read_letter.Goals as goal

pub returns-in_err-start : goal.returns-in_err-start
unfolding Expected ReadLetter
returns-in_err-start c = rw c.from_residual.ensures (untabbed_letter c.in_err-start.ensures)

pub returns-in_err-b : goal.returns-in_err-b
unfolding Expected ReadLetter
returns-in_err-b c = rw c.from_residual-in_err-b.ensures (letter_past c.args.s.now c.in_ok-start.start.at c.in_ok-start.ensures (omega (arith, c.in_err-b.ensures.lookup)))

pub returns-then-not-is_ascii_uppercase : goal.returns-then-not-is_ascii_uppercase
unfolding Expected ReadLetter
returns-then-not-is_ascii_uppercase c =
    let there = c.in_ok-b.ensures.lookup in
    let inside = ltb-true _ _ (sym there.0) in
    let e = get_or_read c.args.s.now c.in_ok-start.start.at c.in_ok-b.field-0.now inside there.1 0 in
    let h = c.if-not-is_ascii_uppercase.ensures.cases in
    other_letter c.args.s.now c.in_ok-start.start.at c.in_ok-start.ensures inside (λ k. let p = k.least in let q = k.most in omega arith)

pub returns : goal.returns
unfolding Expected ReadLetter
returns c =
    let there = c.in_ok-b.ensures.lookup in
    let inside = ltb-true _ _ (sym there.0) in
    let e = get_or_read c.args.s.now c.in_ok-start.start.at c.in_ok-b.field-0.now inside there.1 0 in
    let h = c.if-not-is_ascii_uppercase.ensures.cases in
    rw e (letter_here c.args.s.now c.in_ok-start.start.at c.in_ok-start.ensures inside (omega arith) (omega arith))
