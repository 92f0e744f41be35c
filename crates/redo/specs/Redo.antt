-- One record on the front of a lent table: when it is accepted, and what it then leaves.
use Rattle.std.specs.Prelude.{◌≡◌, Bool, true, false, List, ℕ}
use Rattle.surface.specs.Rows.{Row, row}
use Rattle.surface.specs.Record.{Placed, at, Record, Replays}
use Rattle.record.specs.declared.Leaving.{Leaving}
use Rattle.record.specs.Front.{standing, lowered}
-- what is asked of the scratch that a caller lends
pub use Rattle.neighbours.specs.Around.{Unmarked}

-- a leaving row with its place
abbrev pub placed_as : Leaving → Placed
placed_as r = at r.place.0 (row r.a.0 r.b.0 r.c.0)

-- the record k is accepted on T: its step leads somewhere
abbrev pub Accepts : List Row → Record → Type 0
Accepts T k = (T₁ : List Row) × Replays T k T₁

-- the record k on the m rows that stand in front: done where it is accepted, with zeros for the two rows that leave; where it is not, the table is as it was
unfoldable pub Redid : ℕ → Record → List ℕ → Bool → List ℕ → Type 0
Redid m k t true t' = (T : List Row) × Replays (standing m t) k T × (t' ≡ lowered m T t)
Redid m k t false t' = (¬ Accepts (standing m t) k) × (t' ≡ t)
