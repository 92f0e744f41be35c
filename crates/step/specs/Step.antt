-- The step on a lent table: what it leaves.
use Rattle.std.specs.Prelude.{◌≡◌, List, ℕ, ◌-◌, length, take, drop, replicate}
use Rattle.surface.specs.Rows.{rows}
use Rattle.surface.specs.Record.{Replays}
use Rattle.record.specs.declared.Record.{Record}
use Rattle.record.specs.Meant.{meant}

-- the step of the edge from a up to b, from t to t' with the record r: its table in front, zeros for the two rows that left
pub record Stepped (t : List ℕ) (a b : ℕ) (r : Record) (t' : List ℕ) : Type 0 where
  pub kept_is : r.kept.0 ≡ a
  pub removed_is : r.removed.0 ≡ b
  pub replays : Replays (rows t) (meant r) (rows (take (length t - 6) t'))
  pub cleared : drop (length t - 6) t' ≡ replicate 6 0
