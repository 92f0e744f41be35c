-- `read_form` meets its contract.
use Rattle.heading.specs.Inner.{ReadFirst}
use Rattle.form.specs.Inner.{ReadForm}
use Rattle.form.proofs.Formed.{too_long, no_first_line, refuse_counts, refuse_lines, form_read}
use Rattle.form.proofs.read_form.Goals as goal

pub returns-then-bytes-gt-MOST_BYTES : goal.returns-then-bytes-gt-MOST_BYTES
unfolding ReadForm
returns-then-bytes-gt-MOST_BYTES c =
    let args = c.args in
    too_long args.bytes.now c.if-bytes-gt-MOST_BYTES.true

pub returns-in_default : goal.returns-in_default
unfolding ReadForm ReadFirst
returns-in_default c =
    let args = c.args in
    let if1 = c.if-bytes-gt-MOST_BYTES in
    no_first_line args.bytes.now if1.false c.in_default.ensures

pub returns-then-not-counts_in : goal.returns-then-not-counts_in
unfolding ReadForm ReadFirst
returns-then-not-counts_in c =
    let if1 = c.if-bytes-gt-MOST_BYTES in
    let line = c.in-Some.ensures in
    refuse_counts _ if1.false _ _ _ line (c.counts_in.ensures.when_false c.if-not-counts_in.true)

pub returns-then-not-read_body : goal.returns-then-not-read_body
unfolding ReadForm ReadFirst
returns-then-not-read_body c =
    let counts_in_lem = c.counts_in in
    let if2 = c.if-not-counts_in in
    let if1 = c.if-bytes-gt-MOST_BYTES in
    let read-body = c.read_body in
    let line = c.in-Some.ensures in
    let fit = counts_in_lem.ensures.when_true if2.false in
    refuse_lines _ if1.false _ _ _ line fit (read-body.ensures.when_false c.if-not-read_body.true)

pub returns : goal.returns
unfolding ReadForm ReadFirst
returns c =
    let counts_in_lem = c.counts_in in
    let if2 = c.if-not-counts_in in
    let if1 = c.if-bytes-gt-MOST_BYTES in
    let read-body = c.read_body in
    let line = c.in-Some.ensures in
    let fit = counts_in_lem.ensures.when_true if2.false in
    form_read _ if1.false _ _ _ line fit _ _ (read-body.ensures.when_true c.if-not-read_body.false)
