-- Growing back in a room: what one record makes of the rows that stand there.
use Rattle.std.specs.Prelude.{◌≡◌, Bool, true, false, List, ℕ}
use Rattle.surface.specs.Rows.{Row}
use Rattle.surface.specs.Record.{Record}
use Rattle.growth.specs.Accept.{Accepted}
use Rattle.record.specs.Front.{standing, filled}

-- the record k on a room of m rows: grown back in place where it is accepted; where it is not, the room is as it was
unfoldable pub GrewBack : ℕ → ℕ → Record → List ℕ → Bool → List ℕ → Type 0
GrewBack n m k room true room' = (T : List Row) × Accepted n (standing m room) k T × (room' ≡ filled T room)
GrewBack n m k room false room' = ((T : List Row) → ¬ Accepted n (standing m room) k T) × (room' ≡ room)
