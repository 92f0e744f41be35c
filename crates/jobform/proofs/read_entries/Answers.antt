-- `read_entries` meets its contract.
use Rattle.jobform.specs.Inner.{ReadEntry, ReadEntries}
use Rattle.jobform.proofs.Keeping.{nearer, next_kept, next_past, other_stands, all_read}
use Rattle.jobform.proofs.read_entries.Goals as goal
use Rattle.jobform.proofs.read_entries.Goals.{then-count-entries, else-count-entries}

pub returns-in_err-e : goal.returns-in_err-e
unfolding ReadEntry ReadEntries
returns-in_err-e c = rw c.from_residual.ensures (other_stands c.loop-k.invariant c.loop-k-test.true c.in_err-e.ensures)

pub loop-k-smaller : goal.loop-k-smaller
unfolding ReadEntry
loop-k-smaller c = nearer c.loop-k.invariant _ _ c.in_ok-e.ensures

pub loop-k-preserved : goal.loop-k-preserved
unfolding ReadEntry
loop-k-preserved c =
    elim c.if-count-entries.branch [
      | then-count-entries w ↦ rw w.entries-is (next_kept c.loop-k.invariant _ _ c.in_ok-e.ensures w.if-count-entries.true)
      | else-count-entries w ↦ rw w.entries-is (next_past c.loop-k.invariant _ _ c.in_ok-e.ensures w.if-count-entries.false)
    ]

pub returns : goal.returns
unfolding ReadEntries
returns c = all_read c.loop-k.invariant c.loop-k-test.false
