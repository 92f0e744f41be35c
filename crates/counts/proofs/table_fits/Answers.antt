-- `table_fits` meets its contract: the rows of a table of whole rows are a third of its numbers.
use mathlib.Core.Path.{◌≡◌}
use Prim.Native.Nat.{◌/◌}
use lib.ListN.{length}
use native.Mathlib.Omega.{arith}
use Rattle.surface.specs.Rows.{rows}
use Rattle.surface.proofs.Flat.{rows_length}
use Rattle.counts.proofs.table_fits.Goals as goal

pub returns-then-t-eq0 : goal.returns-then-t-eq0
returns-then-t-eq0 c =
    let t = c.args.t.now in
    let e : length (rows t) ≡ length t / 3 = rows_length (length t / 3) t (omega arith) in
    let k = c.rows_fit.ensures in
    record { when_true = λ r. record { threes = c.if-t-eq0.true; count = rw e (k.when_true r) }; when_false = λ r f. k.when_false r (rw e at f.count) }
