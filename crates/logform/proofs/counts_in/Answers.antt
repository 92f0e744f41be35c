-- `counts_in` meets its contract.
use Rattle.refusal.proofs.Tells.{tells_true, tells_false}
use native.Mathlib.Omega.{arith}
use Rattle.logform.proofs.counts_in.Goals as goal

pub returns-then-n-lt-LEAST_CORNERS : goal.returns-then-n-lt-LEAST_CORNERS
returns-then-n-lt-LEAST_CORNERS c = tells_false (λ k. let a = k.few in let b = c.if-n-lt-LEAST_CORNERS.true in omega arith)

pub returns-then-n-gt-MOST_CORNERS : goal.returns-then-n-gt-MOST_CORNERS
returns-then-n-gt-MOST_CORNERS c = tells_false (λ k. let a = k.many in let b = c.if-n-gt-MOST_CORNERS.true in omega arith)

pub returns-then-m-lt-LEAST_ROWS : goal.returns-then-m-lt-LEAST_ROWS
returns-then-m-lt-LEAST_ROWS c = tells_false (λ k. let a = k.least in let b = c.if-m-lt-LEAST_ROWS.true in omega arith)

pub returns-then-m-gt-MOST_ROWS : goal.returns-then-m-gt-MOST_ROWS
returns-then-m-gt-MOST_ROWS c = tells_false (λ k. let a = k.most in let b = c.if-m-gt-MOST_ROWS.true in omega arith)

pub returns-then-n-records : goal.returns-then-n-records
returns-then-n-records c = tells_false (λ k. let a = k.fewer in let b = c.if-n-records.true in omega arith)

pub returns : goal.returns
returns c =
    let if1 = c.if-n-lt-LEAST_CORNERS in
    let if2 = c.if-n-gt-MOST_CORNERS in
    let if3 = c.if-m-lt-LEAST_ROWS in
    tells_true (record { few = if1.false; many = if2.false; least = if3.false; most = c.if-m-gt-MOST_ROWS.false; fewer = c.if-n-records.false })
